-- The text of a package has as many `while` statements as the package has loops.
use Rattle.std.proofs.Common.{◌≡◌, ℕ, suc, Bool, true, false, List, [], ◌∷◌, ◌++◌, Option, Some, None, refl, ◌∙◌, arith}
use Rattle.std.specs.Prelude.{if◌then◌else◌, slice_get}
use Rattle.std.specs.List.{AllByRecursion}
use Rattle.std.proofs.lemmas.List.Sums.{sum_by-cons, sum_by-append}
use Rattle.wf_ast.specs.TypedPackage.{MethodTree, PackageTree}
use Rattle.c_text.specs.CTree.{ItemTree, struct_item, text_item}
use Rattle.wf_exprs.specs.Helpers.{all_saturating}
use Rattle.wf_exprs.specs.Names.{struct_type, status_name}
use Rattle.wf_lower_stmts.specs.Forms.{form_of}
use Rattle.wf_lower.specs.Bodies.{functions_of, body_function, entry_function}
use Rattle.wf_lower.specs.Called.{has_entry}
use Rattle.wf_lower.specs.Unit.{io_buffer_item, struct_fields, struct_items, initialize_function, initialize_functions, method_functions, all_functions, is_used, used_texts, helper_name, used_helpers, lowered_unit}
use Rattle.wf_lower_laws.specs.TurnLaw.{loops, item_whiles, text_whiles, TextsLoopAlike}
use Rattle.wf_lower_laws.proofs.OrderSums.{of_some, along, in_any_order}
use Rattle.wf_lower_laws.proofs.Orders.{methods_ordered}
use Rattle.wf_lower_laws.proofs.Whiles.{loop_alike}

if_whiles : (n : ℕ) (b : Bool) (xs ys : List ItemTree) → text_whiles xs ≡ n → text_whiles ys ≡ n → text_whiles (if b then xs else ys) ≡ n
if_whiles n true xs ys h k = h
if_whiles n false xs ys h k = k

-- An item without a `while` adds none.
no_more : (item : ItemTree) (items : List ItemTree) → item_whiles item ≡ 0 → text_whiles (item ∷ items) ≡ text_whiles items
no_more item items h = omega (arith, sum_by-cons item_whiles item items, h)

own_loops : MethodTree → ℕ
own_loops m = loops m.body

module _ (p : PackageTree) where
  structs_whiles : (ss : List ℕ) → text_whiles (struct_items p ss) ≡ 0
  structs_whiles [] = refl
  structs_whiles (s ∷ ss) = no_more (struct_item (struct_fields p s) (struct_type p s)) (struct_items p ss) refl ∙ structs_whiles ss

  inits_whiles : (ss : List ℕ) → text_whiles (initialize_functions p ss) ≡ 0
  inits_whiles [] = refl
  inits_whiles (s ∷ ss) = no_more (initialize_function p s) (initialize_functions p ss) ((loop_alike p).inits s) ∙ inits_whiles ss

  texts_whiles : (functions : List ItemTree) (n : ℕ) (texts : List (List ℕ)) → text_whiles (used_texts functions n texts) ≡ 0
  texts_whiles functions n [] = refl
  texts_whiles functions n (bytes ∷ others) =
      let rest = texts_whiles functions (suc n) others in
      if_whiles 0 (is_used functions (status_name n)) (text_item (status_name n) bytes ∷ used_texts functions (suc n) others) (used_texts functions (suc n) others)
      (no_more (text_item (status_name n) bytes) (used_texts functions (suc n) others) refl ∙ rest) rest

  helpers_whiles : (functions its : List ItemTree) → AllByRecursion (λ it. item_whiles it ≡ 0) its → text_whiles (used_helpers functions its) ≡ 0
  helpers_whiles functions [] h = refl
  helpers_whiles functions (it ∷ its) h =
      let rest = helpers_whiles functions its h.1 in
      if_whiles 0 (is_used functions (helper_name it)) (it ∷ used_helpers functions its) (used_helpers functions its) (no_more it (used_helpers functions its) h.0 ∙ rest) rest

  saturatings : AllByRecursion (λ it. item_whiles it ≡ 0) all_saturating
  saturatings =
      let none = (loop_alike p).helpers in
      (none true 8, (none true 16, (none true 32, (none true 64, (none false 8, (none false 16, (none false 32, (none false 64, tt))))))))

  -- A method has those of its body, whether or not it has an entry.
  method_whiles : (n : ℕ) (m : Option MethodTree) → text_whiles (functions_of p n m) ≡ of_some own_loops m
  unfolding own_loops
  method_whiles n None = refl
  method_whiles n (Some m) =
      let entries = if has_entry p n m then entry_function p n m ∷ [] else [] in
      let none = if_whiles 0 (has_entry p n m) (entry_function p n m ∷ []) [] (no_more (entry_function p n m) [] ((loop_alike p).entries n m)) refl in
      omega (arith, sum_by-cons item_whiles (body_function (form_of p m)) entries, (loop_alike p).bodies m, none)

  methods_whiles : (ns : List ℕ) → text_whiles (method_functions p ns) ≡ along own_loops p.methods ns
  methods_whiles [] = refl
  methods_whiles (n ∷ ns) =
      omega (arith, sum_by-append item_whiles (functions_of p n (slice_get p.methods n)) (method_functions p ns), method_whiles n (slice_get p.methods n), methods_whiles ns)

  unit_whiles : text_whiles (lowered_unit p) ≡ along own_loops p.methods p.order
  unfolding lowered_unit
  unit_whiles =
      let structs = struct_items p p.struct_order in
      let texts = used_texts (all_functions p) 0 p.statuses in
      let helpers = used_helpers (all_functions p) all_saturating in
      let inits = initialize_functions p p.struct_order in
      let methods = method_functions p p.order in
      omega (
        arith,
        no_more io_buffer_item (structs ++ (texts ++ (helpers ++ (inits ++ methods)))) refl,
        sum_by-append item_whiles structs (texts ++ (helpers ++ (inits ++ methods))),
        sum_by-append item_whiles texts (helpers ++ (inits ++ methods)),
        sum_by-append item_whiles helpers (inits ++ methods),
        sum_by-append item_whiles inits methods,
        structs_whiles p.struct_order,
        texts_whiles (all_functions p) 0 p.statuses,
        helpers_whiles (all_functions p) all_saturating saturatings,
        inits_whiles p.struct_order,
        methods_whiles p.order,
      )

pub texts_loop_alike : TextsLoopAlike
unfolding own_loops
texts_loop_alike p typed = unit_whiles p ∙ in_any_order own_loops p.methods p.order (methods_ordered p typed).each
