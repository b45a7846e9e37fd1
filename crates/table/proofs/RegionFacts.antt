-- The laws of `part` and `splice` and of stores, in one place for those who cite them.
pub use Rattle.table.proofs.PartFacts.{length_part, get_d_part, part_zero, part_suc, part-part, part_append_right, part_front, part_end, part_middle, part-add, prefix_length}
pub use Rattle.table.proofs.SpliceFacts.{length_splice, drop_splice, take_splice, take_splice_end, take_splice_in, get_d_splice_before, get_d_splice_in, get_d_splice_after, part-splice_same, part-splice_before, part-splice_after, part-splice_in, splice-none, splice-twice, splice_append, splice-behind, splice_self, splice_swap, splice_front, splice-within}
pub use Rattle.table.proofs.StoreFacts.{splice_snoc, splice-more, one_store, two_stores, four_stores, fill_all}
