use Rattle.std.proofs.Common.{◌≡◌, ◌++◌, List, ℕ, sym, subst}
use Rattle.c_text.specs.CSpelling.{includes}
use Rattle.c_text.specs.CNodes.{unit_tree}
use Rattle.c_read_grammar.specs.Outcomes.{HasOutcome, not_c, too_deep}
use Rattle.c_read.specs.declared.reading.Ending.{Ending}
use Rattle.c_read.specs.declared.reading.Ending.TheVariants as ending
use Rattle.c_read.specs.Reading.{HasEnding}
use Rattle.c_read.proofs.MappedErrors.{held_ok}
use Rattle.c_read.proofs.reading.read.Goals as goal

pub returns-in-TooDeep : goal.returns-in-TooDeep
returns-in-TooDeep c =
    let body : c.args.bytes.now ≡ includes ++ c.in_ok-body.body.now = held_ok _ _ c.behind_lines.result c.map_err.result c.in_ok-body.body c.map_err.ensures.variant c.map_err.ensures.cases c.in_ok-body.was c.behind_lines.ensures.body in
    let there : HasEnding (includes ++ c.in_ok-body.body.now) (unit_tree c.read_body.new.self.maker.unit) (ending.TooDeep c.in-TooDeep.at) = subst (λ (e : Ending). HasEnding (includes ++ c.in_ok-body.body.now) (unit_tree c.read_body.new.self.maker.unit) e) c.in-TooDeep.is c.in_ok-read_body.ensures in
    subst (λ (bytes : List ℕ). HasOutcome bytes (too_deep c.in-TooDeep.at)) (sym body) there

pub returns-in-NotC : goal.returns-in-NotC
returns-in-NotC c =
    let body : c.args.bytes.now ≡ includes ++ c.in_ok-body.body.now = held_ok _ _ c.behind_lines.result c.map_err.result c.in_ok-body.body c.map_err.ensures.variant c.map_err.ensures.cases c.in_ok-body.was c.behind_lines.ensures.body in
    let there : HasEnding (includes ++ c.in_ok-body.body.now) (unit_tree c.read_body.new.self.maker.unit) (ending.NotC c.in-NotC.at) = subst (λ (e : Ending). HasEnding (includes ++ c.in_ok-body.body.now) (unit_tree c.read_body.new.self.maker.unit) e) c.in-NotC.is c.in_ok-read_body.ensures in
    subst (λ (bytes : List ℕ). HasOutcome bytes (not_c c.in-NotC.at)) (sym body) there
