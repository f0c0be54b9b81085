-- Wanted things as the table tells them: a few actions with what the token says, a list of the table, and perhaps a symbol
-- that carries a name or an operator.
use Rattle.std.specs.Prelude.{Option, None, Some, List, ◌∷◌}
use Rattle.wf_parse_grammar.specs.declared.symbols.Action.TheVariants as does
use Rattle.wf_parse_grammar.specs.declared.symbols.Sym.{Sym}
use Rattle.wf_parse_grammar.specs.declared.symbols.Want.{Want}
use Rattle.wf_parse_grammar.specs.declared.symbols.Want.TheVariants.{Read, Make}
use Rattle.wf_parse_grammar.specs.declared.wants.Lead.{Lead}
use Rattle.wf_parse_grammar.specs.declared.wants.Lead.TheVariants as leads
use Rattle.wf_parse_grammar.specs.Values.{Made, perform}

-- Actions before a list.
abbrev pub led_by : Lead → List Want → List Want
led_by leads.Empty xs = xs
led_by (leads.One a) xs = Make a ∷ xs
led_by (leads.Places at) xs = Make (does.PushPlace at) ∷ Make (does.PushPlace at) ∷ xs
led_by (leads.PlacedPath name) xs = Make (does.PushPlace name.at) ∷ Make (does.BarePath name) ∷ xs
led_by (leads.ThisPath at) xs = Make does.ThisPath ∷ Make (does.PushPlace at) ∷ xs
led_by (leads.Chain op at) xs = Make (does.StartChain op at) ∷ Make (does.PushPlace at) ∷ xs
led_by (leads.Target op at) xs = Make does.PathTarget ∷ Make (does.PushSign op at) ∷ xs
led_by (leads.ThisTarget op at) xs = Make does.ThisPath ∷ Make does.PathTarget ∷ Make (does.PushSign op at) ∷ xs

-- What the actions before a list make.
abbrev pub performed_by : Lead → Made → Made
performed_by leads.Empty made = made
performed_by (leads.One a) made = perform a made
performed_by (leads.Places at) made = perform (does.PushPlace at) (perform (does.PushPlace at) made)
performed_by (leads.PlacedPath name) made = perform (does.BarePath name) (perform (does.PushPlace name.at) made)
performed_by (leads.ThisPath at) made = perform (does.PushPlace at) (perform does.ThisPath made)
performed_by (leads.Chain op at) made = perform (does.PushPlace at) (perform (does.StartChain op at) made)
performed_by (leads.Target op at) made = perform (does.PushSign op at) (perform does.PathTarget made)
performed_by (leads.ThisTarget op at) made = perform (does.PushSign op at) (perform does.PathTarget (perform does.ThisPath made))

-- A symbol before a list, if there is one.
abbrev pub asked_by : Option Sym → List Want → List Want
asked_by None xs = xs
asked_by (Some s) xs = Read s ∷ xs
