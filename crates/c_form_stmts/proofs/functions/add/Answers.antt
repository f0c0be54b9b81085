use Rattle.std.proofs.Common.{◌≡◌, ℕ, List, false, is_some, refl, sym, ◌∙◌, ap, subst}
use Rattle.c_text.specs.CNodes.{Nodes, bytes_at, type_in}
use Rattle.c_meaning.specs.UnitForm.{is_library}
use Rattle.c_form_exprs.specs.Front.{scope_in}
use Rattle.c_form_stmts.specs.Names.{is_in}
use Rattle.c_form_stmts.proofs.NameLemmas.{declared_fits}
use Rattle.c_form_stmts.proofs.functions.add.Goals as goal

pub returns-clause-fits : goal.returns-clause-fits
returns-clause-fits c =
    let spelt : c.name-spelt.result.now ≡ bytes_at c.args.scope.now.front.nodes.names c.args.name.0 = c.name-spelt.ensures ∙ ap (λ (n : Nodes). bytes_at n.names c.args.name.0) c.unit.ensures in
    let own : is_in c.args.items.now (bytes_at c.args.scope.now.front.nodes.names c.args.name.0) ≡ false = subst (λ (q : List ℕ). is_in c.args.items.now q ≡ false) spelt (ap is_some (sym c.get.ensures) ∙ sym c.if-is_some.ensures) in
    let library : is_library (bytes_at c.args.scope.now.front.nodes.names c.args.name.0) ≡ false = subst (λ (q : List ℕ). is_library q ≡ false) spelt (sym c.if-is_library.ensures) in
    declared_fits c.declare.result (is_in c.args.items.now) (scope_in c.args.scope.now) c.args.scope.now.front.nodes.names c.args.scope.now.names (record { kind = type_in c.args.scope.now.front.nodes.names c.args.kind; name = bytes_at c.args.scope.now.front.nodes.names c.args.name.0 }) refl c.declare.ensures.fresh (sym c.if-not-is_known.ensures) own library
