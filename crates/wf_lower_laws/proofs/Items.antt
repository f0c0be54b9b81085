-- What holds of each item of a text.
use Rattle.std.proofs.Common.{◌≡◌, ℕ, zero, suc, Bool, true, false, List, [], ◌∷◌, ◌++◌, Option, Some, None, refl, subst}
use Rattle.std.specs.Prelude.{if◌then◌else◌, slice_get}
use Rattle.wf_ast.specs.TypedPackage.{MethodTree, PackageTree}
use Rattle.c_text.specs.CTree.{ItemTree, struct_item, text_item}
use Rattle.wf_exprs.specs.Names.{struct_type, status_name}
use Rattle.wf_exprs.specs.Helpers.{saturating, all_saturating}
use Rattle.wf_lower_stmts.specs.Forms.{form_of}
use Rattle.wf_lower.specs.Bodies.{functions_of, body_function, entry_function}
use Rattle.wf_lower.specs.Called.{has_entry}
use Rattle.wf_lower.specs.Unit.{io_buffer_item, struct_fields, struct_items, initialize_function, initialize_functions, method_functions, all_functions, is_used, used_texts, helper_name, used_helpers, lowered_unit}

module _ (P : ItemTree → Type 0) where
  -- It holds of each item of a list.
  abbrev pub Each : List ItemTree → Type 0
  Each [] = Unit {0}
  Each (x ∷ xs) = P x × Each xs

  both : (xs ys : List ItemTree) → Each xs → Each ys → Each (xs ++ ys)
  both [] ys h j = j
  both (x ∷ xs) ys h j = (h.0, both xs ys h.1 j)

  each_if : (b : Bool) (xs ys : List ItemTree) → Each xs → Each ys → Each (if b then xs else ys)
  each_if true xs ys h j = h
  each_if false xs ys h j = j

  pub each_at : (xs : List ItemTree) → Each xs → (i : ℕ) (item : ItemTree) → slice_get xs i ≡ Some item → P item
  each_at [] h i item e = absurd (cc e)
  each_at (x ∷ xs) h zero item e =
      let same : x ≡ item = cc e in
      subst P same h.0
  each_at (x ∷ xs) h (suc i) item e = each_at xs h.1 i item e

  -- It holds of each item of a package's text where it holds of each kind of item.
  pub record HoldsOfKinds (p : PackageTree) : Type 0 where
    pub buffer : P io_buffer_item
    pub structs : (s : ℕ) → P (struct_item (struct_fields p s) (struct_type p s))
    pub texts : (n : ℕ) (bytes : List ℕ) → P (text_item (status_name n) bytes)
    pub helpers : (sum : Bool) (bits : ℕ) → P (saturating sum bits)
    pub inits : (s : ℕ) → P (initialize_function p s)
    pub bodies : (n : ℕ) (m : MethodTree) → slice_get p.methods n ≡ Some m → P (body_function (form_of p m))
    pub entries : (n : ℕ) (m : MethodTree) → slice_get p.methods n ≡ Some m → P (entry_function p n m)

  module _ (p : PackageTree) (h : HoldsOfKinds p) where
    in_structs : (ss : List ℕ) → Each (struct_items p ss)
    in_structs [] = tt
    in_structs (s ∷ ss) = (h.structs s, in_structs ss)

    in_inits : (ss : List ℕ) → Each (initialize_functions p ss)
    in_inits [] = tt
    in_inits (s ∷ ss) = (h.inits s, in_inits ss)

    in_method : (n : ℕ) (m : Option MethodTree) → slice_get p.methods n ≡ m → Each (functions_of p n m)
    in_method n None e = tt
    in_method n (Some m) e = (h.bodies n m e, each_if (has_entry p n m) (entry_function p n m ∷ []) [] (h.entries n m e, tt) tt)

    in_methods : (ns : List ℕ) → Each (method_functions p ns)
    in_methods [] = tt
    in_methods (n ∷ ns) = both (functions_of p n (slice_get p.methods n)) (method_functions p ns) (in_method n (slice_get p.methods n) refl) (in_methods ns)

    in_texts : (functions : List ItemTree) (n : ℕ) (texts : List (List ℕ)) → Each (used_texts functions n texts)
    in_texts functions n [] = tt
    in_texts functions n (bytes ∷ others) =
        each_if (is_used functions (status_name n)) (text_item (status_name n) bytes ∷ used_texts functions (suc n) others) (used_texts functions (suc n) others)
        (h.texts n bytes, in_texts functions (suc n) others) (in_texts functions (suc n) others)

    in_helpers : (functions its : List ItemTree) → Each its → Each (used_helpers functions its)
    in_helpers functions [] j = tt
    in_helpers functions (it ∷ its) j =
        each_if (is_used functions (helper_name it)) (it ∷ used_helpers functions its) (used_helpers functions its) (j.0, in_helpers functions its j.1) (in_helpers functions its j.1)

    saturatings : Each all_saturating
    saturatings =
        (h.helpers true 8, (h.helpers true 16, (h.helpers true 32, (h.helpers true 64, (h.helpers false 8, (h.helpers false 16, (h.helpers false 32, (h.helpers false 64, tt))))))))

    pub in_unit : Each (lowered_unit p)
    unfolding lowered_unit
    in_unit = (
      h.buffer,
      both (struct_items p p.struct_order) _ (in_structs p.struct_order)
          (both (used_texts (all_functions p) 0 p.statuses) _ (in_texts (all_functions p) 0 p.statuses)
          (both (used_helpers (all_functions p) all_saturating) (all_functions p) (in_helpers (all_functions p) all_saturating saturatings)
          (both (initialize_functions p p.struct_order) (method_functions p p.order) (in_inits p.struct_order) (in_methods p.order)))),
    )
