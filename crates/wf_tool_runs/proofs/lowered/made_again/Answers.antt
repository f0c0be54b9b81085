use Rattle.std.proofs.Common.{List, sym, subst}
use Rattle.c_text.specs.CGrammar.{unit_tokens}
use Rattle.c_text.specs.CTree.{ItemTree}
use Rattle.c_read_grammar.specs.Outcomes.{IsShallow}
use Rattle.wf_tool_runs.proofs.lowered.made_again.Goals as goal

pub read_back-requires : goal.read_back-requires
read_back-requires c =
    let S : List ItemTree → Type 0 = λ items. IsShallow 0 (unit_tokens items) in
    subst S (sym c.in_ok-unit.ensures) c.requires.lowered.shallow
