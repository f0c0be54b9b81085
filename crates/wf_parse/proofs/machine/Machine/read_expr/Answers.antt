use Rattle.std.proofs.Common.{◌≡◌, [], ◌∷◌, ap, subst, sym}
use Rattle.wf_parse_grammar.specs.declared.builds.Build.{Build}
use Rattle.wf_parse_grammar.specs.declared.builds.Build.TheVariants as builds
use Rattle.wf_parse_grammar.specs.declared.symbols.Action.TheVariants as does
use Rattle.wf_parse_grammar.specs.declared.symbols.Sym.TheVariants as syms
use Rattle.wf_parse_grammar.specs.declared.symbols.Want.TheVariants.{Make, Read}
use Rattle.wf_parse_grammar.specs.Building.{build}
use Rattle.wf_parse.specs.Machines.{state_of, AnswersBuild}
use Rattle.wf_parse.proofs.machine.Machine.read_expr.Goals as goal

pub returns-in-Number-clause-answers : goal.returns-in-Number-clause-answers
returns-in-Number-clause-answers c =
    let is : build syms.Expr c.args.token.kind c.args.token.at ≡ builds.Take (Make (does.NumberExpr c.in-Number.value c.args.token.at) ∷ Read syms.Rest ∷ []) = ap (λ kind. build syms.Expr kind c.args.token.at) c.in-Number.is in
    let P : Build → Type 0 = λ b. AnswersBuild c.args.limited syms.Expr c.args.token b (state_of c.args.self.now) (state_of c.take_led.new.self) c.take_led.result in
    subst P (sym is) c.take_led.ensures.answers

pub returns-in-Name-clause-answers : goal.returns-in-Name-clause-answers
returns-in-Name-clause-answers c =
    let is : build syms.Expr c.args.token.kind c.args.token.at ≡ builds.Take (Make (does.BarePath (record { text = c.in-Name.text; at = c.args.token.at })) ∷ Read syms.PathAtom ∷ Read syms.Rest ∷ []) = ap (λ kind. build syms.Expr kind c.args.token.at) c.in-Name.is in
    let P : Build → Type 0 = λ b. AnswersBuild c.args.limited syms.Expr c.args.token b (state_of c.args.self.now) (state_of c.take_led-in-Name.new.self) c.take_led-in-Name.result in
    subst P (sym is) c.take_led-in-Name.ensures.answers

pub returns-in-OpenRound-clause-answers : goal.returns-in-OpenRound-clause-answers
returns-in-OpenRound-clause-answers c =
    let is : build syms.Expr c.args.token.kind c.args.token.at ≡ builds.Take (Read syms.Expr ∷ Read syms.RightRound ∷ Read syms.Rest ∷ []) = ap (λ kind. build syms.Expr kind c.args.token.at) c.in-OpenRound.is in
    let P : Build → Type 0 = λ b. AnswersBuild c.args.limited syms.Expr c.args.token b (state_of c.args.self.now) (state_of c.take_led-in-OpenRound.new.self) c.take_led-in-OpenRound.result in
    subst P (sym is) c.take_led-in-OpenRound.ensures.answers

pub returns-in-This-clause-answers : goal.returns-in-This-clause-answers
returns-in-This-clause-answers c =
    let is : build syms.Expr c.args.token.kind c.args.token.at ≡ builds.Take (Make (does.PushPlace c.args.token.at) ∷ Read syms.ADot ∷ Read syms.AName ∷ Read syms.ThisAtom ∷ Read syms.Rest ∷ []) = ap (λ kind. build syms.Expr kind c.args.token.at) c.in-This.is in
    let P : Build → Type 0 = λ b. AnswersBuild c.args.limited syms.Expr c.args.token b (state_of c.args.self.now) (state_of c.take_led-in-This.new.self) c.take_led-in-This.result in
    subst P (sym is) c.take_led-in-This.ensures.answers

pub returns-in-Args-clause-answers : goal.returns-in-Args-clause-answers
returns-in-Args-clause-answers c =
    let is : build syms.Expr c.args.token.kind c.args.token.at ≡ builds.Take (Make (does.PushPlace c.args.token.at) ∷ Read syms.ADot ∷ Read syms.AName ∷ Make does.ArgsPath ∷ Read syms.PathAtom ∷ Read syms.Rest ∷ []) = ap (λ kind. build syms.Expr kind c.args.token.at) c.in-Args.is in
    let P : Build → Type 0 = λ b. AnswersBuild c.args.limited syms.Expr c.args.token b (state_of c.args.self.now) (state_of c.take_led-in-Args.new.self) c.take_led-in-Args.result in
    subst P (sym is) c.take_led-in-Args.ensures.answers
