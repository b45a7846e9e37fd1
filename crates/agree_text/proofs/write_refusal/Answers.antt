use mathlib.Core.Path.{sym, ◌∙◌}
use Rattle.agree_text.proofs.RefusalFacts.{refusal-written, refusal_length}
use Rattle.agree_text.proofs.write_refusal.Goals as goal

pub returns : goal.returns
returns c = (refusal-written _ _ _ _ _ c.requires (c.from-2.ensures ∙ c.from.ensures) c.copy_into.ensures c.write_decimal.ensures, sym (refusal_length _))
