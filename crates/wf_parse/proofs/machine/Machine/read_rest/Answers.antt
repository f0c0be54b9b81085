use Rattle.std.proofs.Common.{◌≡◌, [], ◌∷◌, ap, subst, sym}
use Rattle.wf_parse_grammar.specs.declared.builds.Build.{Build}
use Rattle.wf_parse_grammar.specs.declared.builds.Build.TheVariants as builds
use Rattle.wf_parse_grammar.specs.declared.symbols.Action.TheVariants as does
use Rattle.wf_parse_grammar.specs.declared.symbols.Sym.TheVariants as syms
use Rattle.wf_parse_grammar.specs.declared.symbols.Want.TheVariants.{Make, Read}
use Rattle.wf_parse_grammar.specs.Building.{build}
use Rattle.wf_parse.specs.Machines.{state_of, AnswersBuild}
use Rattle.wf_parse.proofs.machine.Machine.read_rest.Goals as goal

pub returns-in-Binary-clause-answers : goal.returns-in-Binary-clause-answers
returns-in-Binary-clause-answers c =
    let is : build syms.Rest c.args.token.kind c.args.token.at ≡ builds.Take (Make (does.StartChain c.in-Binary.op c.args.token.at) ∷ Make (does.PushPlace c.args.token.at) ∷ Read syms.Operand ∷ Make does.AddLink ∷ Make does.FinishChain ∷ Read syms.End ∷ []) = ap (λ kind. build syms.Rest kind c.args.token.at) c.in-Binary.is in
    let P : Build → Type 0 = λ b. AnswersBuild c.args.limited syms.Rest c.args.token b (state_of c.args.self.now) (state_of c.take_led.new.self) c.take_led.result in
    subst P (sym is) c.take_led.ensures.answers

pub returns-in-Chain-clause-answers : goal.returns-in-Chain-clause-answers
returns-in-Chain-clause-answers c =
    let is : build syms.Rest c.args.token.kind c.args.token.at ≡ builds.Take (Make (does.StartChain c.in-Chain.op c.args.token.at) ∷ Make (does.PushPlace c.args.token.at) ∷ Read syms.Operand ∷ Make does.AddLink ∷ Read (syms.Links c.in-Chain.op) ∷ []) = ap (λ kind. build syms.Rest kind c.args.token.at) c.in-Chain.is in
    let P : Build → Type 0 = λ b. AnswersBuild c.args.limited syms.Rest c.args.token b (state_of c.args.self.now) (state_of c.take_led-in-Chain.new.self) c.take_led-in-Chain.result in
    subst P (sym is) c.take_led-in-Chain.ensures.answers
