use Prim.Native.Nat.{◌<◌}
use native.Mathlib.Omega.{arith}
use Rattle.lookup_cells.proofs.RecallFacts.{recall_kept, back_alike}
use Rattle.lookup_cells.proofs.recall.recall.Goals as goal

pub lead_back-requires : goal.lead_back-requires
lead_back-requires c = (c.requires.2 _ c.requires.0, c.requires.3)

pub lead_back-by-requires : goal.lead_back-by-requires
lead_back-by-requires c = (c.requires.2 _ c.requires.0, c.requires.3)

pub returns : goal.returns
returns c =
    let k : c.from-k.result < 1024 = omega (arith, c.if-k-ge1024.false) in
    let own = c.from-k.ensures in (
      c.lead_back-by.ensures,
      record {
        numbered = c.requires.4.numbered;
        recalls = recall_kept _ _ _ _ _ c.requires.4.recalls c.args.e _ c.requires.0 own k _ c.lead_back-by.ensures
            (λ f lt same. back_alike _ _ c.args.e f _ _ _ _ _ c.requires.3.few c.requires.2 c.requires.4.numbered c.requires.0 own k lt same);
      },
    )
