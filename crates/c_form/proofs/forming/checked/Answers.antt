use Rattle.std.proofs.Common.{◌≡◌, ◌+◌, ℕ, map, length, Some, option_map, sym, ◌∙◌, ap, subst, arith}
use Rattle.std.specs.List.{slice_get}
use Rattle.c_text.specs.CNodes.{unit_tree}
use Rattle.c_meaning.specs.UnitForm.{item_name}
use Rattle.c_form_exprs.specs.Front.{Front, front_items}
use Rattle.c_form.specs.Items.{formed_alone}
use Rattle.c_form.specs.Demands.{Tally}
use Rattle.c_form.proofs.DemandLemmas.{met_length}
use Rattle.c_form.proofs.FormLaws.{breaks_alone, breaks_asked, goes_on, no_item, all_formed, one_missing, above_zero}
use Rattle.c_form.proofs.forming.checked.Goals as goal

pub returns-then-not-branch-clause-refused : goal.returns-then-not-branch-clause-refused
returns-then-not-branch-clause-refused c = sym (breaks_alone c.args.surface.now c.args.unit.now c.loop-i.i (omega (arith, c.loop-i-test.true, c.items.ensures)) c.in_ok-is_formed_item.field-0 c.if-not-branch.true (subst (λ (f : Front). Some c.in_ok-is_formed_item.field-0 ≡ option_map (formed_alone (front_items f) (map item_name (unit_tree f.nodes))) (slice_get (unit_tree f.nodes) c.loop-i.i)) c.loop-i.invariant.front c.in_ok-is_formed_item.ensures) c.loop-i.invariant.so_far)

pub are_met-requires : goal.are_met-requires
are_met-requires c =
    let long : length c.in_ok-demands.demands.met ≡ length c.args.unit.now.items = ap (λ (d : Tally). length d.met) c.in_ok-demands.ensures ∙ met_length c.args.surface.now c.args.unit.now in
    omega (arith, long, c.loop-i-test.true, c.items.ensures)

pub returns-then-not-are_met-clause-refused : goal.returns-then-not-are_met-clause-refused
returns-then-not-are_met-clause-refused c = sym (breaks_asked c.args.surface.now c.args.unit.now c.loop-i.i (omega (arith, c.loop-i-test.true, c.items.ensures)) c.in_ok-is_formed_item.field-0 c.are_met.result c.if-not-branch.false (subst (λ (f : Front). Some c.in_ok-is_formed_item.field-0 ≡ option_map (formed_alone (front_items f) (map item_name (unit_tree f.nodes))) (slice_get (unit_tree f.nodes) c.loop-i.i)) c.loop-i.invariant.front c.in_ok-is_formed_item.ensures) (ap (λ (d : Tally). slice_get d.met c.loop-i.i) (sym c.in_ok-demands.ensures) ∙ c.are_met.ensures) c.if-not-are_met.true c.loop-i.invariant.so_far)

pub loop-i-preserved : goal.loop-i-preserved
loop-i-preserved c = record {
  front = c.in_ok-declare.ensures ∙ ap (λ (f : Front). record f { count = f.count + 1 }) c.loop-i.invariant.front;
  within = omega (arith, c.loop-i-test.true, c.items.ensures);
  so_far = goes_on c.args.surface.now c.args.unit.now c.loop-i.i (omega (arith, c.loop-i-test.true, c.items.ensures)) c.in_ok-is_formed_item.field-0 c.are_met.result c.if-not-branch.false (subst (λ (f : Front). Some c.in_ok-is_formed_item.field-0 ≡ option_map (formed_alone (front_items f) (map item_name (unit_tree f.nodes))) (slice_get (unit_tree f.nodes) c.loop-i.i)) c.loop-i.invariant.front c.in_ok-is_formed_item.ensures) (ap (λ (d : Tally). slice_get d.met c.loop-i.i) (sym c.in_ok-demands.ensures) ∙ c.are_met.ensures) c.if-not-are_met.false c.loop-i.invariant.so_far;
}

pub returns-then-i-eq0-clause-refused : goal.returns-then-i-eq0-clause-refused
returns-then-i-eq0-clause-refused c = sym (no_item c.args.surface.now c.args.unit.now c.loop-i.i (omega (arith, c.loop-i-test.false, c.items.ensures)) c.loop-i.invariant.within c.if-i-eq0.true c.loop-i.invariant.so_far)

pub returns-then-are_complete-clause-whole : goal.returns-then-are_complete-clause-whole
returns-then-are_complete-clause-whole c =
    let all : c.loop-i.i ≡ length c.args.unit.now.items = omega (arith, c.loop-i-test.false, c.items.ensures, c.loop-i.invariant.within) in
    c.loop-i.invariant.front ∙ ap (λ (n : ℕ). record { nodes = c.args.unit.now; count = n }) all

pub returns-then-are_complete-clause-form : goal.returns-then-are_complete-clause-form
returns-then-are_complete-clause-form c = sym (all_formed c.args.surface.now c.args.unit.now c.loop-i.i (omega (arith, c.loop-i-test.false, c.items.ensures)) c.loop-i.invariant.within (above_zero c.loop-i.i c.if-i-eq0.false) (ap (λ (d : Tally). d.complete) (sym c.in_ok-demands.ensures) ∙ (sym c.are_complete.ensures ∙ c.if-are_complete.true)) c.loop-i.invariant.so_far)

pub returns-clause-refused : goal.returns-clause-refused
returns-clause-refused c = sym (one_missing c.args.surface.now c.args.unit.now c.loop-i.i (omega (arith, c.loop-i-test.false, c.items.ensures)) c.loop-i.invariant.within (ap (λ (d : Tally). d.complete) (sym c.in_ok-demands.ensures) ∙ (sym c.are_complete.ensures ∙ c.if-are_complete.false)) c.loop-i.invariant.so_far)
