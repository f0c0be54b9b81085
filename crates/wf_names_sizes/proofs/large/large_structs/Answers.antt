use Rattle.std.proofs.Common.{◌≡◌, List, Option, Some, ◌∙◌, sym, ap, subst}
use Rattle.std.specs.List.{flat_map}
use Rattle.wf_text.specs.declared.rules.Refusal.{Refusal}
use Rattle.wf_text.specs.Precedence.{soonest}
use Rattle.wf_names_sizes.specs.declared.parts.FieldPart.{FieldPart}
use Rattle.wf_names_sizes.specs.Deciding.{DecidesBehind}
use Rattle.wf_names_sizes.specs.StructSizes.{too_large_struct, struct_large, AreSettled, HasLargeField}
use Rattle.wf_names_sizes.proofs.LargeLaws.{larges-are}
use Rattle.wf_names_sizes.proofs.DecidingLaws.{large-behind}
use Rattle.wf_names_sizes.proofs.large.large_structs.Goals as goal

pub returns : goal.returns
returns c = λ d rows holding.
    let flags = c.args.flags.now in
    let sizes = c.in_ok-sizes.sizes.items in
    let found = c.args.found.now in
    let S : List (List FieldPart) → Type 0 = AreSettled flags sizes in
    let all : c.too_large_structs.new.found ≡ soonest found (flat_map (struct_large d flags sizes) d.structs) =
    (rw c.as_slice.ensures.value at c.too_large_structs.ensures) ∙ ap (λ xs. soonest found (flat_map (too_large_struct flags sizes (Some 0)) xs)) rows
    ∙ ap (soonest found) (larges-are d flags sizes d.structs) in
    let P : Option Refusal → Type 0 = DecidesBehind (HasLargeField d) found in
    subst P (sym all) (large-behind d flags sizes holding (c.in_ok-sizes.ensures.sound d rows holding) (subst S rows c.in_ok-sizes.ensures.settled) found)
