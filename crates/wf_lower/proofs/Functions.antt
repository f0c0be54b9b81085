-- The functions of a text: those that make objects of structs ready, and those of methods.
use Rattle.std.proofs.Common.{◌≡◌, ◌∙◌, ap, sym, subst, ℕ, suc, ◌<◌, Bool, true, false, if◌then◌else◌, Option, Some, IfSome, Result, Ok, Err, OnOk, List, [], ◌∷◌, ◌++◌, get_or, length, refl, arith, nat_lt}
use Rattle.std.specs.Prelude.{slice_get}
use Rattle.std.specs.List.{list_all}
use Rattle.std.proofs.lemmas.Bool.Decides.{nat_tests}
use Rattle.wf_text.specs.declared.faults.NoMemory.{NoMemory}
use Rattle.wf_ast.specs.declared.typed_code.Block.{Block}
use Rattle.wf_ast.specs.declared.typed_nodes.TypedNodes.{TypedNodes}
use Rattle.wf_ast.specs.TypedInvariant.{IsTyped, block_below}
use Rattle.wf_ast.specs.TypedPackage.{MethodTree, PackageTree, package_of}
use Rattle.wf_ast.specs.TypedTrees.{block_of}
use Rattle.wf_points.specs.PointNumbers.{PointTable, number_at, point_number}
use Rattle.c_text.specs.declared.nodes.CItem.{CItem}
use Rattle.c_text.specs.CNodes.{Nodes}
use Rattle.c_text.specs.CTree.{ItemTree}
use Rattle.wf_exprs.specs.Grown.{Grows}
use Rattle.wf_exprs.proofs.Growing.{unchanged}
use Rattle.wf_lower_stmts.specs.BodyNodes.{BodyTree, form_in}
use Rattle.wf_lower_stmts.specs.Forms.{Form, form_of}
use Rattle.wf_lower_stmts.specs.declared.walks.StartedNumbers.{StartedNumbers}
use Rattle.wf_lower.specs.Bodies.{body_function, entry_function, functions_of}
use Rattle.wf_lower.specs.Called.{has_entry}
use Rattle.wf_lower.specs.Made.{AddsFunctions, HasFunctionTrees, HasItemTree, IsReady}
use Rattle.wf_lower.specs.Methods.{IsBodyOf}
use Rattle.wf_lower.specs.Parts.{entry_functions}
use Rattle.wf_lower.specs.Unit.{initialize_functions, method_functions, struct_items}
use Rattle.wf_lower.proofs.Kept.{FitsFunctionTree, function_of, functions_as, functions_on, functions_push, no_functions}
use Rattle.wf_lower.proofs.Known.{body_same, body_there, count_same, in_order, methods_same, structs_in_order}
use Rattle.wf_lower.proofs.PartLaws.{front_nil}
use Rattle.wf_lower.proofs.Walks.{all_here}

-- Numbers in an order are those of structs, or of methods.
struct_order_same : (nodes : TypedNodes) → (package_of nodes).struct_order ≡ nodes.struct_order
unfolding package_of
struct_order_same nodes = refl

pub struct_order_is : (nodes : TypedNodes) (order : List ℕ) → order ≡ nodes.struct_order → order ≡ (package_of nodes).struct_order
struct_order_is nodes order e = e ∙ sym (struct_order_same nodes)

pub struct_known : (nodes : TypedNodes) → IsTyped nodes → (order : List ℕ) (i d : ℕ) → order ≡ nodes.struct_order → i < length order → get_or order i d < length nodes.structs
struct_known nodes typed order i d e h =
    let is_struct : ℕ → Bool = λ s. nat_lt s (length (package_of nodes).structs) in
    let known : list_all is_struct order ≡ true = ap (list_all is_struct) (struct_order_is nodes order e) ∙ structs_in_order (package_of nodes) typed.rules in
    let test : nat_lt (get_or order i d) (length (package_of nodes).structs) ≡ true = all_here is_struct order i d h known in
    let below : get_or order i d < length (package_of nodes).structs = grind (arith, nat_tests, test) in
    let same = count_same nodes in
    omega (arith, below, same)

order_same : (nodes : TypedNodes) → (package_of nodes).order ≡ nodes.order
unfolding package_of
order_same nodes = refl

pub order_is : (nodes : TypedNodes) (order : List ℕ) → order ≡ nodes.order → order ≡ (package_of nodes).order
order_is nodes order e = e ∙ sym (order_same nodes)

pub statuses_same : (nodes : TypedNodes) → (package_of nodes).statuses ≡ nodes.statuses
unfolding package_of
statuses_same nodes = refl

pub method_known : (nodes : TypedNodes) → IsTyped nodes → (order : List ℕ) (i d : ℕ) → order ≡ nodes.order → i < length order → get_or order i d < length nodes.methods
method_known nodes typed order i d e h =
    let known : list_all (λ m. nat_lt m (length (package_of nodes).methods)) order ≡ true = ap (list_all (λ m. nat_lt m (length (package_of nodes).methods))) (order_is nodes order e) ∙ in_order (package_of nodes) typed.rules in
    let test : nat_lt (get_or order i d) (length (package_of nodes).methods) ≡ true = all_here (λ m. nat_lt m (length (package_of nodes).methods)) order i d h known in
    let below : get_or order i d < length (package_of nodes).methods = grind (arith, nat_tests, test) in
    let same = methods_same nodes typed in
    omega (arith, below, same)

-- What is made of one number more.
abbrev pub initialize_walk : PackageTree → ℕ → List ℕ → List ItemTree
initialize_walk p n ss = initialize_functions p ss

abbrev pub struct_walk : PackageTree → ℕ → List ℕ → List ItemTree
struct_walk p n ss = struct_items p ss

abbrev pub method_walk : PackageTree → ℕ → List ℕ → List ItemTree
method_walk p n ms = method_functions p ms

pub method_cons : (p : PackageTree) (n : ℕ) (m : ℕ) (ms : List ℕ) → method_walk p n (m ∷ ms) ≡ method_walk p n (m ∷ []) ++ method_walk p (suc n) ms
method_cons p n m ms = front_nil (functions_of p m (slice_get p.methods m)) (method_functions p ms)

-- The body of a method.
module _ (nodes : TypedNodes) (n : ℕ) (body : Block) (there : n < length nodes.methods) (is : slice_get nodes.bodies n ≡ Some body) where
  pub is_body : (b : BodyTree) (points : PointTable) (started : List StartedNumbers) → IsReady nodes points started → b.nodes ≡ nodes → b.numbers ≡ points.numbers → slice_get (package_of nodes).methods n ≡ Some (form_in b).method → IsBodyOf b body
  is_body b points started ready e f known = record {
    number = n;
    known = ap (λ (t : TypedNodes). slice_get (package_of t).methods n) e ∙ known;
    below = ap (λ (t : TypedNodes). block_below (length t.stmts) body) e ∙ body_there nodes ready.typed n body is;
    same = ap (λ (t : TypedNodes). block_of t body) e ∙ body_same nodes n body there is (form_in b).method known;
    numbers = λ s. ap (λ (ns : List (Option ℕ)). number_at ns s) f ∙ ready.numbered s ∙ ap (λ (t : TypedNodes). point_number (package_of t).methods s) (sym e);
  }

pub form_same : (nodes : TypedNodes) (b : BodyTree) (n : ℕ) (m : MethodTree) → b.nodes ≡ nodes → slice_get (package_of nodes).methods n ≡ Some (form_in b).method → slice_get (package_of nodes).methods n ≡ Some m → form_in b ≡ form_of (package_of nodes) m
form_same nodes b n m e here known =
    let same : (form_in b).method ≡ m = cc (here, known) in
    ap (λ (t : TypedNodes). form_of (package_of t) (form_in b).method) e ∙ ap (form_of (package_of nodes)) same

-- One function more.
pub functions_same : {a b : Nodes} (ps qs : List CItem) (xs ys : List ItemTree) → xs ≡ ys → AddsFunctions a b ps qs xs → AddsFunctions a b ps qs ys
functions_same ps qs xs ys e f so_far h = functions_as (ap (λ l. so_far ++ l) e) (f so_far h)

item_push : {a b : Nodes} (ps qs : List CItem) (x : CItem) (tree : ItemTree) (r : Result (Unit {0}) NoMemory) → FitsFunctionTree tree → Grows a b → HasItemTree b x tree → OnOk r (qs ≡ ps ++ x ∷ []) → OnOk r (AddsFunctions a b ps qs (tree ∷ []))
item_push ps qs x tree r fits g h e = functions_push ps qs x tree r g (function_of x tree fits h) e

pub body_push : (a b : Nodes) (nodes : TypedNodes) (of : BodyTree) (n : ℕ) (ps qs : List CItem) (x : CItem) (r : Result (Unit {0}) NoMemory) → of.nodes ≡ nodes → slice_get (package_of nodes).methods n ≡ Some (form_in of).method → Grows a b → HasItemTree b x (body_function (form_in of)) → OnOk r (qs ≡ ps ++ x ∷ [])
    → OnOk r ((m : MethodTree) → slice_get (package_of nodes).methods n ≡ Some m → AddsFunctions a b ps qs (body_function (form_of (package_of nodes) m) ∷ []))
body_push a b nodes of n ps qs x (Ok u) e here g h pushed = λ m known.
    functions_same ps qs (body_function (form_in of) ∷ []) (body_function (form_of (package_of nodes) m) ∷ []) (ap (λ (f : Form). body_function f ∷ []) (form_same nodes of n m e here known)) (item_push ps qs x (body_function (form_in of)) (Ok u) tt g h pushed)
body_push a b nodes of n ps qs x (Err refused) e here g h pushed = pushed

some_at : {A : Type 0} (P : A → Type 0) (o : Option A) (a : A) → o ≡ Some a → IfSome o P → P a
some_at P o a e h = subst (λ it. IfSome it P) e h

-- The entry of a method, where it has one.
module _ (nodes : TypedNodes) (n : ℕ) (has : Bool) (is : (it : MethodTree) → slice_get (package_of nodes).methods n ≡ Some it → has ≡ has_entry (package_of nodes) n it) where
  pub entry_push : (a b : Nodes) (ps qs : List CItem) (x : CItem) (r : Result (Unit {0}) NoMemory) → has ≡ true → Grows a b → IfSome (slice_get (package_of nodes).methods n) (λ it. HasItemTree b x (entry_function (package_of nodes) n it)) → OnOk r (qs ≡ ps ++ x ∷ [])
      → OnOk r ((it : MethodTree) → slice_get (package_of nodes).methods n ≡ Some it → AddsFunctions a b ps qs (entry_functions (package_of nodes) n it))
  entry_push a b ps qs x (Ok u) there g made pushed = λ it known.
      let tree = entry_function (package_of nodes) n it in
      let h : HasItemTree b x tree = some_at (λ other. HasItemTree b x (entry_function (package_of nodes) n other)) (slice_get (package_of nodes).methods n) it known made in
      let yes : has_entry (package_of nodes) n it ≡ true = sym (is it known) ∙ there in
      functions_same ps qs (tree ∷ []) (entry_functions (package_of nodes) n it) (ap (λ q. if q then tree ∷ [] else []) (sym yes)) (item_push ps qs x tree (Ok u) tt g h pushed)
  entry_push a b ps qs x (Err refused) there g made pushed = pushed

  pub entry_none : (a : Nodes) (ps : List CItem) → has ≡ false → (it : MethodTree) → slice_get (package_of nodes).methods n ≡ Some it → AddsFunctions a a ps ps (entry_functions (package_of nodes) n it)
  entry_none a ps none it known =
      let no : has_entry (package_of nodes) n it ≡ false = sym (is it known) ∙ none in
      functions_same ps ps [] (entry_functions (package_of nodes) n it) (ap (λ q. if q then entry_function (package_of nodes) n it ∷ [] else []) (sym no)) (no_functions ps (unchanged a a refl))

-- Both functions of a method.
pub method_then : (a b c : Nodes) (p : PackageTree) (n : ℕ) (o : Option MethodTree) (m : MethodTree) (ps qs rs : List CItem) (r : Result (Unit {0}) NoMemory) → o ≡ Some m
    → AddsFunctions a b ps qs (body_function (form_of p m) ∷ []) → OnOk r ((it : MethodTree) → o ≡ Some it → AddsFunctions b c qs rs (entry_functions p n it))
    → OnOk r (AddsFunctions a c ps rs (functions_of p n o))
method_then a b c p n o m ps qs rs (Ok u) known f g =
    functions_same ps rs (functions_of p n (Some m)) (functions_of p n o) (ap (functions_of p n) (sym known)) (functions_on (body_function (form_of p m) ∷ []) (entry_functions p n m) f (g m known))
method_then a b c p n o m ps qs rs (Err refused) known f g = g

-- From no function on.
pub all_made : {a b c : Nodes} (none fs gs : List CItem) (xs ys : List ItemTree) → none ≡ [] → AddsFunctions a b none fs xs → AddsFunctions b c fs gs ys → HasFunctionTrees c gs (xs ++ ys)
all_made {a} none fs gs xs ys e f g =
    let start : HasFunctionTrees a none [] = subst (λ (l : List CItem). HasFunctionTrees a l []) (sym e) (record { there = tt; are = refl }) in
    functions_on xs ys f g [] start
