use Rattle.std.proofs.Common.{List, sym, subst}
use Rattle.wf_ast.specs.TypedPackage.{package_of}
use Rattle.c_text.specs.declared.nodes.CItem.{CItem}
use Rattle.wf_lower.specs.Made.{AreRead, FitFunctions, item_trees}
use Rattle.wf_lower.proofs.Kept.{keeps_by}
use Rattle.wf_lower.proofs.Texts.{fit_grown}
use Rattle.wf_lower.proofs.Whole.{items_lowered}
use Rattle.wf_lower.proofs.lowering.add_items.Goals as goal

pub names_read-requires : goal.names_read-requires
names_read-requires c =
    let u = c.all_functions.new.u in
    subst (λ (l : List CItem). FitFunctions u l) (sym c.as_slice.ensures.value) c.in_ok-functions.ensures.made.there

pub add_functions-requires : goal.add_functions-requires
add_functions-requires c =
    let u = c.all_functions.new.u in
    let fs = c.in_ok-functions.functions.items in
    let are = subst (λ (l : List CItem). AreRead (item_trees u l) u.names c.in_ok-read.read) c.as_slice.ensures.value c.in_ok-read.ensures in
    fit_grown fs (keeps_by (c.in_ok-add_before.ensures (item_trees u fs) are)) c.in_ok-functions.ensures.made.there

pub returns : goal.returns
returns c =
    let p = package_of c.args.p.now.t.now in
    let u = c.all_functions.new.u in
    let fs = c.in_ok-functions.functions.items in
    let are = subst (λ (l : List CItem). AreRead (item_trees u l) u.names c.in_ok-read.read) c.as_slice.ensures.value c.in_ok-read.ensures in
    items_lowered p c.args.u.now u _ _ fs c.add_functions.result c.is_sound.ensures c.all_functions.ensures.grows c.in_ok-functions.ensures.made (c.in_ok-add_before.ensures (item_trees u fs) are) c.add_functions.ensures
