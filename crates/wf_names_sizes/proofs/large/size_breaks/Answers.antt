use Rattle.std.proofs.Common.{◌≡◌, List, Option, map, ◌∙◌, sym, subst}
use Rattle.wf_text.specs.declared.rules.Refusal.{Refusal}
use Rattle.wf_names_sizes.specs.declared.parts.FieldPart.{FieldPart}
use Rattle.wf_names_sizes.specs.Deciding.{DecidesBehind}
use Rattle.wf_names_sizes.specs.Orders.{IsSettlingOrder}
use Rattle.wf_names_sizes.specs.StructSizes.{row_of, HasLargeField}
use Rattle.wf_names_sizes.proofs.DecidingLaws.{sizes-behind}
use Rattle.wf_names_sizes.proofs.SettleLemmas.{order-settles}
use Rattle.wf_names_sizes.proofs.ValueLemmas.{on_ok}
use Rattle.wf_names_sizes.proofs.large.size_breaks.Goals as goal
use Rattle.wf_names_rules.specs.Declarations.{declared_in}

pub large_structs-requires : goal.large_structs-requires
large_structs-requires c =
    let d = declared_in c.args.parsed.now in
    let rows : c.as_slice.result.now ≡ map (row_of d) d.structs = c.as_slice.ensures.value ∙ c.requires.sizes.structs in
    let P : List (List FieldPart) → Type 0 = λ xs. IsSettlingOrder c.args.cycles.now.flags.items xs c.args.cycles.now.order.items in
    rw (c.as_slice-2.ensures.value, c.as_slice-3.ensures.value) (subst P (sym rows) (order-settles d c.args.cycles.now.flags.items c.args.cycles.now.order.items c.requires.holding c.requires.order))

pub returns : goal.returns
returns c =
    let d = declared_in c.args.parsed.now in
    let rows : c.as_slice.result.now ≡ map (row_of d) d.structs = c.as_slice.ensures.value ∙ c.requires.sizes.structs in
    let last = c.large_structs.new.found in
    let P : Option Refusal → Type 0 = λ found. DecidesBehind (HasLargeField d) found last in
    on_ok c.large_structs.result (λ b. sizes-behind d c.args.found.now last (subst P c.long_by_constants.ensures (b d rows (rw c.as_slice-2.ensures.value c.requires.holding)))) c.large_structs.ensures
