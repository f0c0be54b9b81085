use Rattle.std.proofs.Common.{◌≡◌, [], ◌∷◌, ap, subst, sym}
use Rattle.wf_parse_grammar.specs.declared.builds.Build.{Build}
use Rattle.wf_parse_grammar.specs.declared.builds.Build.TheVariants as builds
use Rattle.wf_parse_grammar.specs.declared.symbols.Action.TheVariants as does
use Rattle.wf_parse_grammar.specs.declared.symbols.Sym.TheVariants as syms
use Rattle.wf_parse_grammar.specs.declared.symbols.Want.TheVariants.{Make, Read}
use Rattle.wf_parse_grammar.specs.Building.{build}
use Rattle.wf_parse.specs.Machines.{state_of, AnswersBuild}
use Rattle.wf_parse.proofs.machine.Machine.read_more_items.Goals as goal

pub returns-in-Semicolon-clause-answers : goal.returns-in-Semicolon-clause-answers
returns-in-Semicolon-clause-answers c =
    let is : build syms.MoreItems c.args.token.kind c.args.token.at ≡ builds.Take (Read syms.Items ∷ []) = ap (λ kind. build syms.MoreItems kind c.args.token.at) c.in-Semicolon.is in
    let P : Build → Type 0 = λ b. AnswersBuild c.args.limited syms.MoreItems c.args.token b (state_of c.args.self.now) (state_of c.take_led.new.self) c.take_led.result in
    subst P (sym is) c.take_led.ensures.answers

pub returns-in-CloseCurly-clause-answers : goal.returns-in-CloseCurly-clause-answers
returns-in-CloseCurly-clause-answers c =
    let is : build syms.MoreItems c.args.token.kind c.args.token.at ≡ builds.Take (Make (does.CloseBlock c.args.token.at) ∷ []) = ap (λ kind. build syms.MoreItems kind c.args.token.at) c.in-CloseCurly.is in
    let P : Build → Type 0 = λ b. AnswersBuild c.args.limited syms.MoreItems c.args.token b (state_of c.args.self.now) (state_of c.take_led-in-CloseCurly.new.self) c.take_led-in-CloseCurly.result in
    subst P (sym is) c.take_led-in-CloseCurly.ensures.answers
