-- The whole text of an accepted package.
use Rattle.std.proofs.Common.{◌≡◌, ◌∙◌, ap, sym, subst, Bool, Result, Ok, Err, OnOk, List, [], ◌∷◌, ◌++◌, map, refl}
use Rattle.wf_text.specs.declared.faults.NoMemory.{NoMemory}
use Rattle.wf_ast.specs.declared.typed_nodes.TypedNodes.{TypedNodes}
use Rattle.wf_ast.specs.TypedInvariant.{IsTyped}
use Rattle.wf_ast.specs.TypedPackage.{PackageTree, package_of}
use Rattle.wf_points.specs.PointNumbers.{PointTable}
use Rattle.wf_bounds.specs.Acceptance.{AcceptedPackage, IsAccepted}
use Rattle.c_text.specs.declared.nodes.CItem.{CItem}
use Rattle.c_text.specs.CNodes.{Nodes, no_nodes, unit_tree}
use Rattle.c_text.specs.CUnit.{IsSound}
use Rattle.c_text.specs.CTree.{ItemTree}
use Rattle.wf_exprs.specs.Grown.{Grows}
use Rattle.wf_exprs.specs.Helpers.{all_saturating}
use Rattle.wf_exprs_nodes.specs.Growth.{GrowsBy}
use Rattle.wf_exprs_nodes.proofs.ItemLaws.{by_after}
use Rattle.wf_lower_stmts.specs.BodyNodes.{started_of}
use Rattle.wf_lower_stmts.specs.declared.walks.StartedNumbers.{StartedNumbers}
use Rattle.wf_lower.specs.Made.{AreRead, HasFunctionTrees, IsReady, IsSpelt, item_trees}
use Rattle.wf_lower.specs.Parts.{items_before, items_in}
use Rattle.wf_lower.specs.Unit.{all_functions, io_buffer_item, lowered_unit, struct_items, used_helpers, used_texts}
use Rattle.wf_lower.proofs.Functions.{statuses_same}
use Rattle.wf_lower.proofs.Kept.{keeps_by}
use Rattle.wf_lower.proofs.Small.{points_small}
use Rattle.wf_lower.proofs.Texts.{by_list, by_on, same_grown, still_read}

-- The package is typed, as the code has it.
pub typed_as : (a : AcceptedPackage) → IsAccepted a → (t : TypedNodes) → t ≡ a.nodes → IsTyped t
typed_as a kept t e = subst IsTyped (sym e) kept.typed

module _ (started : List StartedNumbers) where
  ready_as : (a : AcceptedPackage) → IsAccepted a → IsSpelt a.nodes → started ≡ map started_of (package_of a.nodes).methods → IsReady a.nodes a.points started
  ready_as a kept spelt are =
      record { typed = kept.typed; spelt = spelt; small = points_small a.nodes kept.typed kept.few a.points.numbers kept.numbers; numbered = kept.numbers; saved = kept.saved; started = are }

  pub ready : (a : AcceptedPackage) → IsAccepted a → IsSpelt a.nodes → (t : TypedNodes) (points : PointTable) → t ≡ a.nodes → points ≡ a.points → started ≡ map started_of (package_of t).methods → IsReady t points started
  ready a kept spelt t points e f are =
      let made : started ≡ map started_of (package_of a.nodes).methods = are ∙ ap (λ (n : TypedNodes). map started_of (package_of n).methods) e in
      subst (λ (n : TypedNodes). IsReady n points started) (sym e) (subst (λ (q : PointTable). IsReady a.nodes q started) (sym f) (ready_as a kept spelt made))

pub whole_text : (a b : Nodes) (items : List ItemTree) → a ≡ no_nodes → GrowsBy items a b → unit_tree b ≡ items
unfolding unit_tree
whole_text a b items e g = g.items ∙ ap (λ n. unit_tree n ++ items) e

assoc : {A : Type 0} (xs ys zs : List A) → (xs ++ ys) ++ zs ≡ xs ++ (ys ++ zs)
assoc [] ys zs = refl
assoc (x ∷ xs) ys zs = ap (λ l. x ∷ l) (assoc xs ys zs)

-- The items before the functions, and these, are all.
items_are : (p : PackageTree) → items_in p ≡ lowered_unit p
unfolding lowered_unit
items_are p =
    let fs = all_functions p in
    let ss = struct_items p p.struct_order in
    let texts = used_texts fs 0 p.statuses in
    let helpers = used_helpers fs all_saturating in
    ap (λ l. io_buffer_item ∷ l) (assoc ss (texts ++ helpers) fs ∙ ap (λ l. ss ++ l) (assoc texts helpers fs))

-- The items before the functions, one kind after the other.
pub before_all : (nodes : TypedNodes) (a b c d e : Nodes) (read : List Bool) (r : Result (Unit {0}) NoMemory)
    → GrowsBy (io_buffer_item ∷ []) a b → GrowsBy (struct_items (package_of nodes) (package_of nodes).struct_order) b c → ((functions : List ItemTree) → AreRead functions c.names read → GrowsBy (used_texts functions 0 nodes.statuses) c d)
    → OnOk r ((functions : List ItemTree) → AreRead functions d.names read → GrowsBy (used_helpers functions all_saturating) d e) → OnOk r ((functions : List ItemTree) → AreRead functions a.names read → GrowsBy (items_before (package_of nodes) functions) a e)
before_all nodes a b c d e read (Ok u) buffer structs texts helpers = λ functions are.
    let ss = struct_items (package_of nodes) (package_of nodes).struct_order in
    let front : GrowsBy (io_buffer_item ∷ ss) a c = by_on (io_buffer_item ∷ []) ss buffer structs in
    let ts = used_texts functions 0 (package_of nodes).statuses in
    let hs = used_helpers functions all_saturating in
    let first = still_read functions (keeps_by front) are in
    let own : GrowsBy ts c d = by_list (ap (used_texts functions 0) (sym (statuses_same nodes))) (texts functions first) in
    by_on (io_buffer_item ∷ ss) (ts ++ hs) front (by_on ts hs own (helpers functions (still_read functions (keeps_by own) first)))
before_all nodes a b c d e read (Err refused) buffer structs texts helpers = helpers

-- All items: those before the functions, and the functions.
pub items_lowered : (p : PackageTree) (a b c d : Nodes) (fs : List CItem) (r : Result (Unit {0}) NoMemory) → IsSound a → Grows a b → HasFunctionTrees b fs (all_functions p)
    → GrowsBy (items_before p (item_trees b fs)) b c → OnOk r (GrowsBy (item_trees c fs) c d) → OnOk r (GrowsBy (lowered_unit p) a d)
items_lowered p a b c d fs (Ok u) sound g has before own =
    let functions = all_functions p in
    let own_b : GrowsBy functions c d = by_list (same_grown fs (keeps_by before) has.there ∙ has.are) own in
    let before_b : GrowsBy (items_before p functions) b c = by_list (ap (items_before p) has.are) before in
    by_list (items_are p) (by_after a b d (items_in p) sound g (by_on (items_before p functions) functions before_b own_b))
items_lowered p a b c d fs (Err refused) sound g has before own = own
