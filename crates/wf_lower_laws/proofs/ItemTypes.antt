-- All items of a text have the types that C asks.
use Rattle.std.proofs.Common.{◌≡◌, inl, inr, ℕ, zero, suc, ◌<◌, ◌^◌, Bool, true, false, not, ◌||◌, List, [], ◌∷◌, ◌++◌, length, map, take, Option, Some, None, nat_eq, nat_lt, refl, sym, ap, ◌∙◌, subst, arith, append_assoc, append-nil}
use Rattle.std.specs.Prelude.{if◌then◌else◌, cond, slice_get, bytes_eq, codes, is_some, option_and_then, unwrap_or, option_map}
use Rattle.std.specs.List.{list_all}
use Rattle.std.proofs.lemmas.Bool.Decides.{nat_tests}
use Rattle.std.proofs.lemmas.List.Folds.{list_any-append}
use Rattle.std.proofs.lemmas.Option.{slice_get_within}
use Rattle.wf_ast.specs.TypedPackage.{StructTree, MethodTree, PackageTree, answers_of}
use Rattle.wf_ast.specs.WellTyped.{may_be_arg, may_be_local, may_be_field, may_be_result, answers_always, well_block, well_method, calls_only, calls_known, calls_in_front, is_whole, all_structs_whole, well_typed}
use Rattle.wf_ast.proofs.Arena.{both_true}
use Rattle.wf_meaning.specs.Entry.{bad_receiver}
use Rattle.wf_meaning.specs.SourceState.{fields_of}
use Rattle.c_text.specs.declared.kinds.Linkage.TheVariants.{External, Static}
use Rattle.c_text.specs.CTree.{text, struct_pointer, FieldTree, ParamTree, LocalTree, ItemTree, struct_item, text_item, function_item}
use Rattle.c_meaning.specs.CTypes.{CScope, structs_of, functions_of, scope_of, struct_named, local_name, held_type, variable_held}
use Rattle.c_meaning.specs.UnitForm.{is_among, all_distinct, item_name}
use Rattle.wf_exprs.specs.Names.{struct_type, initialize_name, body_name, entry_name, status_name}
use Rattle.wf_exprs.specs.Exprs.{status_constant}
use Rattle.wf_exprs.specs.Helpers.{all_saturating}
use Rattle.wf_lower_stmts.specs.Forms.{form_of}
use Rattle.wf_lower.specs.Bodies.{functions_of as method_items, params_of, result_of, fixed_locals, body_locals, body_code, own_names, touched, body_function, answer_locals, entry_function, entry_code}
use Rattle.wf_lower.specs.Called.{has_entry}
use Rattle.wf_lower.specs.Unit.{io_buffer_item, struct_fields, struct_items, initialize_code, initialize_function, initialize_functions, method_functions, all_functions, is_used, used_texts, helper_name, used_helpers, lowered_unit}
use Rattle.wf_lower_laws.specs.FieldLaw.{is_short, HasFieldNames, HasShortArrays}
use Rattle.wf_lower_laws.specs.FormLaw.{typed_item}
use Rattle.wf_lower_laws.specs.ItemLaw.{HasItemNames}
use Rattle.wf_lower_laws.specs.KindLaw.{IsText}
use Rattle.wf_lower_laws.specs.NameLaw.{HasNames}
use Rattle.wf_lower_laws.specs.TypeLaw.{HasBaseStatuses, TextsAreTyped}
use Rattle.wf_lower_laws.proofs.Apart.{has, left_or, right_or}
use Rattle.wf_lower_laws.proofs.OwnNames.{map_both}
use Rattle.wf_lower_laws.proofs.NameLaw.{Words, words, named_method, body_own, entry_own}
use Rattle.wf_lower_laws.proofs.ItemNames.{items_name_apart}
use Rattle.wf_lower_laws.proofs.JumpLaw.{all_methods, method_rules}
use Rattle.wf_lower_laws.proofs.Orders.{one_number, Rising, AreOrdered, methods_ordered, StructsOrdered, structs_ordered}
use Rattle.wf_lower_laws.proofs.Surfaces.{Stands, stands_later, stands_front, stands_behind, in_inits, in_structs, in_methods}
use Rattle.wf_lower_laws.proofs.Frames.{same_bytes}
use Rattle.wf_lower_laws.proofs.Finding.{distinct_front, struct_found, function_found}
use Rattle.wf_lower_laws.proofs.FieldNames.{fields_distinct}
use Rattle.wf_lower_laws.proofs.Scopes.{name_of}
use Rattle.wf_lower_laws.proofs.Statuses.{all_texts, constant_text}
use Rattle.wf_lower_laws.proofs.Prefixes.{AreFunctions, functions_front, functions_are, before_function, structs_part, texts_part, helpers_part, text_alike, used_by}
use Rattle.wf_lower_laws.proofs.MethodScope.{Given, FoundAs, serves}
use Rattle.wf_lower_laws.proofs.BodyTypes.{body_ok, body_typed}
use Rattle.wf_lower_laws.proofs.EntryTypes.{entry_typed}
use Rattle.wf_lower_laws.proofs.StructTypes.{struct_formed, init_typed}
use Rattle.wf_lower_laws.proofs.KeptReads.{held_read, count_read}

-- ---- items after others

abbrev TypedFrom : List ItemTree → List ItemTree → Type 0
TypedFrom before [] = Unit {0}
TypedFrom before (x ∷ xs) = (typed_item before x ≡ true) × TypedFrom (before ++ x ∷ []) xs

from_both : (before xs ys : List ItemTree) → TypedFrom before xs → TypedFrom (before ++ xs) ys → TypedFrom before (xs ++ ys)
from_both before [] ys h j = let P : List ItemTree → Type 0 = λ z. TypedFrom z ys in subst P (append-nil before) j
from_both before (x ∷ xs) ys h j =
    let P : List ItemTree → Type 0 = λ z. TypedFrom z ys in
    (h.0, from_both (before ++ x ∷ []) xs ys h.1 (subst P (sym (append_assoc before (x ∷ []) xs)) j))

from_at : (before xs : List ItemTree) → TypedFrom before xs → (i : ℕ) (item : ItemTree) → slice_get xs i ≡ Some item → typed_item (before ++ take i xs) item ≡ true
from_at before [] h i item e = absurd (cc e)
from_at before (x ∷ xs) h zero item e =
    let same : x ≡ item = cc e in
    let P : ItemTree → Type 0 = λ z. typed_item before z ≡ true in
    let Q : List ItemTree → Type 0 = λ z. typed_item z item ≡ true in
    subst Q (sym (append-nil before)) (subst P same h.0)
from_at before (x ∷ xs) h (suc i) item e =
    let P : List ItemTree → Type 0 = λ z. typed_item z item ≡ true in
    subst P (append_assoc before (x ∷ []) (take i xs)) (from_at (before ++ x ∷ []) xs h.1 i item e)

texts_from : (before functions : List ItemTree) (n : ℕ) (ts : List (List ℕ)) → TypedFrom before (used_texts functions n ts)
texts_from before functions n [] = tt
texts_from before functions n (bytes ∷ ts) = by (is_used functions (status_name n)) (texts_from before functions (suc n) ts) (texts_from (before ++ text_item (status_name n) bytes ∷ []) functions (suc n) ts)
  where
    by : (b : Bool) → TypedFrom before (used_texts functions (suc n) ts) → TypedFrom (before ++ text_item (status_name n) bytes ∷ []) (used_texts functions (suc n) ts)
        → TypedFrom before (if b then text_item (status_name n) bytes ∷ used_texts functions (suc n) ts else used_texts functions (suc n) ts)
    by true h j = (refl, j)
    by false h j = h

abbrev TypedAnywhere : List ItemTree → Type 0
TypedAnywhere [] = Unit {0}
TypedAnywhere (x ∷ xs) = ((before : List ItemTree) → typed_item before x ≡ true) × TypedAnywhere xs

helpers_from : (before functions its : List ItemTree) → TypedAnywhere its → TypedFrom before (used_helpers functions its)
helpers_from before functions [] h = tt
helpers_from before functions (it ∷ its) h = by (is_used functions (helper_name it)) (helpers_from before functions its h.1) (helpers_from (before ++ it ∷ []) functions its h.1)
  where
    by : (b : Bool) → TypedFrom before (used_helpers functions its) → TypedFrom (before ++ it ∷ []) (used_helpers functions its) → TypedFrom before (if b then it ∷ used_helpers functions its else used_helpers functions its)
    by true x y = (h.0 before, y)
    by false x y = x

helpers_typed : TypedAnywhere all_saturating
helpers_typed = ((λ b. refl), ((λ b. refl), ((λ b. refl), ((λ b. refl), ((λ b. refl), ((λ b. refl), ((λ b. refl), ((λ b. refl), tt))))))))

-- ---- what stands in lists of items

struct_some : (items : List ItemTree) (i : ℕ) (fields : List FieldTree) (name : List ℕ) → slice_get items i ≡ Some (struct_item fields name) → is_some (struct_named (structs_of items) name) ≡ true
struct_some [] i fields name e = absurd (cc e)
struct_some (x ∷ items) zero fields name e =
    let same : x ≡ struct_item fields name = cc e in
    let P : ItemTree → Type 0 = λ z. is_some (struct_named (structs_of (z ∷ items)) name) ≡ true in
    subst P (sym same) (rw (same_bytes name) refl)
struct_some (text_item other bytes ∷ items) (suc i) fields name e = struct_some items i fields name e
struct_some (function_item linkage result_type other params locals body ∷ items) (suc i) fields name e = struct_some items i fields name e
struct_some (struct_item own other ∷ items) (suc i) fields name e = by (bytes_eq other name) (struct_some items i fields name e)
  where
    by : (b : Bool) → is_some (struct_named (structs_of items) name) ≡ true → is_some (cond b (Some (record { fields = own; name = other })) (struct_named (structs_of items) name)) ≡ true
    by true k = refl
    by false k = k

distinct_back : (ls ms : List (List ℕ)) → all_distinct (ls ++ ms) ≡ true → all_distinct ms ≡ true
distinct_back [] ms d = d
distinct_back (l ∷ ls) ms d = distinct_back ls ms (both_true (not (is_among (ls ++ ms) l)) (all_distinct (ls ++ ms)) d).1

structs_more : (p : PackageTree) (done : List ℕ) (s : ℕ) → struct_items p (done ++ s ∷ []) ≡ struct_items p done ++ struct_item (struct_fields p s) (struct_type p s) ∷ []
structs_more p [] s = refl
structs_more p (d ∷ done) s = ap (λ z. struct_item (struct_fields p d) (struct_type p d) ∷ z) (structs_more p done s)

inits_both : (p : PackageTree) (xs ys : List ℕ) → initialize_functions p (xs ++ ys) ≡ initialize_functions p xs ++ initialize_functions p ys
inits_both p [] ys = refl
inits_both p (x ∷ xs) ys = ap (λ z. initialize_function p x ∷ z) (inits_both p xs ys)

methods_both : (p : PackageTree) (xs ys : List ℕ) → method_functions p (xs ++ ys) ≡ method_functions p xs ++ method_functions p ys
methods_both p [] ys = refl
methods_both p (x ∷ xs) ys = ap (λ z. method_items p x (slice_get p.methods x) ++ z) (methods_both p xs ys) ∙ sym (append_assoc (method_items p x (slice_get p.methods x)) (method_functions p xs) (method_functions p ys))

before_more : (p : PackageTree) (xs ys : List ItemTree) → before_function p xs ++ ys ≡ before_function p (xs ++ ys)
before_more p xs ys =
    append_assoc (io_buffer_item ∷ structs_part p) (texts_part p ++ (helpers_part p ++ xs)) ys
    ∙ ap (λ z. (io_buffer_item ∷ structs_part p) ++ z) (append_assoc (texts_part p) (helpers_part p ++ xs) ys ∙ ap (λ z. texts_part p ++ z) (append_assoc (helpers_part p) xs ys))

in_bodies : (p : PackageTree) (ns : List ℕ) (n : ℕ) (m : MethodTree) → has ns n ≡ true → slice_get p.methods n ≡ Some m → Stands (body_function (form_of p m)) (method_functions p ns)
in_bodies p [] n m h e = absurd (cc h)
in_bodies p (x ∷ ns) n m h e = by (nat_eq n x) refl h (λ k. in_bodies p ns n m k e)
  where
    by : (b : Bool) → nat_eq n x ≡ b → (b || has ns n) ≡ true → (has ns n ≡ true → Stands (body_function (form_of p m)) (method_functions p ns)) → Stands (body_function (form_of p m)) (method_items p x (slice_get p.methods x) ++ method_functions p ns)
    by true t k more =
        let P : ℕ → Type 0 = λ z. Stands (body_function (form_of p m)) (method_items p z (slice_get p.methods z) ++ method_functions p ns) in
        let Q : Option MethodTree → Type 0 = λ o. Stands (body_function (form_of p m)) (method_items p n o ++ method_functions p ns) in
        subst P (one_number n x t) (subst Q (sym e) (stands_front (body_function (form_of p m)) (method_items p n (Some m)) (method_functions p ns) (0, refl)))
    by false t k more = stands_behind (body_function (form_of p m)) (method_items p x (slice_get p.methods x)) (method_functions p ns) (more k)

-- ---- the whole text

module _ (p : PackageTree) (well : well_typed p ≡ true) (named : HasItemNames p) (own : HasNames p) (fields : HasFieldNames p) (short : HasShortArrays p) (base : HasBaseStatuses p) where
  ordered : AreOrdered p
  ordered = methods_ordered p well

  placed : StructsOrdered p
  placed = structs_ordered p well

  abbrev I : List ItemTree
  I = initialize_functions p p.struct_order

  abbrev M : List ItemTree
  M = method_functions p p.order

  whole : lowered_unit p ≡ before_function p (all_functions p)
  unfolding lowered_unit
  whole = refl

  names_of_all : all_distinct (map item_name (before_function p (all_functions p))) ≡ true
  names_of_all = let P : List ItemTree → Type 0 = λ z. all_distinct (map item_name z) ≡ true in subst P whole (items_name_apart p named)

  -- What stands before a part of the functions has names that differ.
  front_names : (items rest : List ItemTree) → all_functions p ≡ items ++ rest → all_distinct (map item_name (before_function p items)) ≡ true
  front_names items rest e =
      let P : List ItemTree → Type 0 = λ z. all_distinct (map item_name (before_function p z)) ≡ true in
      let Q : List ItemTree → Type 0 = λ z. all_distinct (map item_name z) ≡ true in
      let R : List (List ℕ) → Type 0 = λ z. all_distinct z ≡ true in
      distinct_front (map item_name (before_function p items)) (map item_name rest)
      (subst R (map_both item_name (before_function p items) rest) (subst Q (sym (before_more p items rest)) (subst P e names_of_all)))

  item_names : (items rest : List ItemTree) → all_functions p ≡ items ++ rest → all_distinct (map item_name items) ≡ true
  item_names items rest e =
      let R : List (List ℕ) → Type 0 = λ z. all_distinct z ≡ true in
      let a = front_names items rest e in
      let b = distinct_back (item_name io_buffer_item ∷ map item_name (structs_part p)) _ (subst R (map_both item_name (io_buffer_item ∷ structs_part p) (texts_part p ++ (helpers_part p ++ items))) a) in
      let d = distinct_back (map item_name (texts_part p)) _ (subst R (map_both item_name (texts_part p) (helpers_part p ++ items)) b) in
      distinct_back (map item_name (helpers_part p)) (map item_name items) (subst R (map_both item_name (helpers_part p) items) d)

  items_are : (items rest : List ItemTree) → all_functions p ≡ items ++ rest → AreFunctions items
  items_are items rest e = let P : List ItemTree → Type 0 = AreFunctions in functions_front items rest (subst P e (functions_are p))

  struct_in : (items : List ItemTree) (s : ℕ) → s < length p.structs → Stands (struct_item (struct_fields p s) (struct_type p s)) (before_function p items)
  struct_in items s l = stands_later _ io_buffer_item _ (stands_front _ (structs_part p) _ (in_structs p p.struct_order s (placed.each.all s l)))

  own_struct : (items rest : List ItemTree) → all_functions p ≡ items ++ rest → (s : ℕ) → s < length p.structs
      → struct_named (structs_of (before_function p items)) (struct_type p s) ≡ Some (record { fields = struct_fields p s; name = struct_type p s })
  own_struct items rest e s l = let t = struct_in items s l in struct_found (before_function p items) t.0 (struct_fields p s) (struct_type p s) (front_names items rest e) t.1

  function_in : (items : List ItemTree) (item : ItemTree) → Stands item items → Stands item (before_function p items)
  function_in items item h = stands_later item io_buffer_item _ (stands_behind item (structs_part p) _ (stands_behind item (texts_part p) _ (stands_behind item (helpers_part p) items h)))

  -- ---- structs

  fields_rule : (k : ℕ) (ss : List StructTree) (i : ℕ) (it : StructTree) → all_structs_whole p k ss ≡ true → slice_get ss i ≡ Some it → list_all (λ x. may_be_field p x.ty) it.fields ≡ true
  fields_rule k [] i it w e = absurd (cc e)
  fields_rule k (x ∷ ss) zero it w e =
      let same : x ≡ it = cc e in
      let P : StructTree → Type 0 = λ z. list_all (λ x. may_be_field p x.ty) z.fields ≡ true in
      subst P same (both_true (list_all (λ y. may_be_field p y.ty) x.fields) _ (both_true (is_whole p (length p.structs) k) _ w).1).0
  fields_rule k (x ∷ ss) (suc i) it w e = fields_rule (suc k) ss i it (both_true (list_all (λ y. may_be_field p y.ty) x.fields) _ (both_true (is_whole p (length p.structs) k) _ w).1).1 e

  structs_are : all_structs_whole p 0 p.structs ≡ true
  unfolding well_typed
  structs_are = (both_true (all_structs_whole p 0 p.structs) _ well).0

  in_list : (T : StructTree → Bool) (ss : List StructTree) (i : ℕ) (it : StructTree) → list_all T ss ≡ true → slice_get ss i ≡ Some it → T it ≡ true
  in_list T [] i it h e = absurd (cc e)
  in_list T (x ∷ ss) zero it h e = let same : x ≡ it = cc e in let P : StructTree → Type 0 = λ z. T z ≡ true in subst P same (both_true (T x) (list_all T ss) h).0
  in_list T (x ∷ ss) (suc i) it h e = in_list T ss i it (both_true (T x) (list_all T ss) h).1 e

  fields_may : (s : ℕ) → (list_all (λ x. may_be_field p x.ty) (fields_of p s) ≡ true) × (list_all (λ x. is_short x.ty) (fields_of p s) ≡ true)
  fields_may s = by (slice_get p.structs s) refl
    where
      by : (o : Option StructTree) → slice_get p.structs s ≡ o → (list_all (λ x. may_be_field p x.ty) (unwrap_or (option_map (λ it. it.fields) o) []) ≡ true) × (list_all (λ x. is_short x.ty) (unwrap_or (option_map (λ it. it.fields) o) []) ≡ true)
      by None e = (refl, refl)
      by (Some it) e = (fields_rule 0 p.structs s it structs_are e, in_list (λ s. list_all (λ x. is_short x.ty) s.fields) p.structs s it short e)

  structs_from : (done rest : List ℕ) → Rising p done rest → TypedFrom (io_buffer_item ∷ struct_items p done) (struct_items p rest)
  structs_from done [] r = tt
  structs_from done (s ∷ rest) r =
      let may = fields_may s in
      let before = io_buffer_item ∷ struct_items p done in
      let P : List ItemTree → Type 0 = λ z. TypedFrom (io_buffer_item ∷ z) (struct_items p rest) in (
        struct_formed p (structs_of before) s may.0 may.1 (λ t h. (let k = stands_later _ io_buffer_item (struct_items p done) (in_structs p done t (r.0 t h)) in struct_some before k.0 (struct_fields p t) (struct_type p t) k.1)) (fields_distinct p fields own s),
        subst P (structs_more p done s) (structs_from (done ++ s ∷ []) rest r.1),
      )

  -- ---- functions that make structs ready

  refused : (items rest : List ItemTree) → all_functions p ≡ items ++ rest → (s : ℕ) → has p.struct_order s ≡ true → IsText (scope_of (before_function p items) (record { kind = struct_pointer (struct_type p s); name = codes "self" } ∷ [])) (status_constant bad_receiver)
  refused items rest e s h = by (constant_text full p.statuses refl (omega (arith, named.few)) bad_receiver (base bad_receiver (omega arith)) refl)
    where
      params : List ParamTree
      params = record { kind = struct_pointer (struct_type p s); name = codes "self" } ∷ []

      full : CScope
      full = record { structs = []; texts = all_texts 0 p.statuses; functions = []; names = record { kind = struct_pointer (struct_type p s); name = codes "self" } ∷ [] }

      init_there : Stands (initialize_function p s) (all_functions p)
      init_there = stands_front (initialize_function p s) I M (in_inits p p.struct_order s h)

      used : is_used (all_functions p) (status_name bad_receiver) ≡ true
      used = used_by (all_functions p) init_there.0 (initialize_function p s) (status_name bad_receiver) init_there.1 (left_or _ _ (left_or (bytes_eq (status_name bad_receiver) (status_name bad_receiver)) _ (same_bytes (status_name bad_receiver))))

      alike : variable_held (scope_of (before_function p items) (record { kind = struct_pointer (struct_type p s); name = codes "self" } ∷ [])) (status_name bad_receiver)
          ≡ variable_held (record { structs = []; texts = all_texts 0 p.statuses; functions = []; names = record { kind = struct_pointer (struct_type p s); name = codes "self" } ∷ [] }) (status_name bad_receiver)
      alike = rw (text_alike p items (items_are items rest e) (status_name bad_receiver) used) refl

      by : IsText (record { structs = []; texts = all_texts 0 p.statuses; functions = []; names = record { kind = struct_pointer (struct_type p s); name = codes "self" } ∷ [] }) (status_constant bad_receiver)
          → IsText (scope_of (before_function p items) (record { kind = struct_pointer (struct_type p s); name = codes "self" } ∷ [])) (status_constant bad_receiver)
      by (inl k) = absurd (cc k)
      by (inr k) = inr (ap (option_and_then held_type) alike ∙ k)

  inits_from : (done rest : List ℕ) → p.struct_order ≡ done ++ rest → Rising p done rest → TypedFrom (before_function p (initialize_functions p done)) (initialize_functions p rest)
  inits_from done [] e r = tt
  inits_from done (s ∷ rest) e r =
      let items = initialize_functions p done in
      let parts : all_functions p ≡ items ++ (initialize_functions p (s ∷ rest) ++ M) = ap (λ z. initialize_functions p z ++ M) e ∙ (ap (λ z. z ++ M) (inits_both p done (s ∷ rest)) ∙ append_assoc items (initialize_functions p (s ∷ rest)) M) in
      let P : List ℕ → Type 0 = λ z. has z s ≡ true in
      let there : has p.struct_order s ≡ true = subst P (sym e) (list_any-append (nat_eq s) done (s ∷ rest) ∙ right_or (has done s) _ (left_or (nat_eq s s) (has rest s) (grind (arith, nat_tests)))) in
      let l = placed.each.below s there in
      let names = front_names items (initialize_functions p (s ∷ rest) ++ M) parts in
      let is = own_struct items (initialize_functions p (s ∷ rest) ++ M) parts s l in
      let Q : List ItemTree → Type 0 = λ z. TypedFrom z (initialize_functions p rest) in
      let R : List ItemTree → Type 0 = λ z. TypedFrom (before_function p z) (initialize_functions p rest) in (
        init_typed p s (before_function p items) (record { own = is; distinct = fields_distinct p fields own s; receiver = refl }) (refused items (initialize_functions p (s ∷ rest) ++ M) parts s there) (rw is refl)
            (λ t h. (let k = function_in items (initialize_function p t) (in_inits p done t (r.0 t h)) in
            record { function = _; found = function_found (before_function p items) k.0 External (Some text) (initialize_name p t) (record { kind = struct_pointer (struct_type p t); name = codes "self" } ∷ []) [] (initialize_code p t) names k.1; params = refl })),
        subst Q (sym (before_more p items (initialize_function p s ∷ []))) (subst R (inits_both p done (s ∷ [])) (inits_from (done ++ s ∷ []) rest (e ∙ sym (append_assoc done (s ∷ []) rest)) r.1)),
      )

  -- ---- methods

  method_is : (n : ℕ) (m : MethodTree) → slice_get p.methods n ≡ Some m → well_method p m ≡ true
  method_is n m e = method_rules p p.methods n m (all_methods p well) e

  record Rules (m : MethodTree) : Type 0 where
    below : m.of < length p.structs
    args_are : list_all (λ v. may_be_arg v.ty) m.args ≡ true
    locals_are : list_all (λ v. may_be_local v.ty) m.locals ≡ true
    result_is : may_be_result m.mark m.gives ≡ true
    body_is : well_block (record { within = p; method = m }) [] m.body ≡ true

  rules_of : (m : MethodTree) → well_method p m ≡ true → Rules m
  rules_of m w =
      let a = both_true (nat_lt m.of (length p.structs)) _ w in
      let b = both_true (list_all (λ x. may_be_arg x.ty) m.args) _ a.1 in
      let d = both_true (list_all (λ x. may_be_local x.ty) m.locals) _ b.1 in
      let f = both_true (may_be_result m.mark m.gives) _ d.1 in
      let g = both_true (answers_always m.mark m.gives m.body) _ f.1 in
      let l : nat_lt m.of (length p.structs) ≡ true = a.0 in
      record { below = grind (arith, nat_tests, l); args_are = b.0; locals_are = d.0; result_is = f.0; body_is = g.1 }

  words_at : (n : ℕ) (m : MethodTree) → slice_get p.methods n ≡ Some m → Words m
  words_at n m e = words m (named_method p.methods n m own e)

  few : length p.statuses < 2 ^ 64
  few = named.few

  fronts_apart : (m : MethodTree) (fixed others : List LocalTree) → all_distinct (map name_of (params_of p m ++ map local_name (fixed ++ others))) ≡ true → all_distinct (map name_of (params_of p m ++ map local_name fixed)) ≡ true
  fronts_apart m fixed others d =
      let P : List (List ℕ) → Type 0 = λ z. all_distinct z ≡ true in
      let Q : List ParamTree → Type 0 = λ z. all_distinct (map name_of z) ≡ true in
      distinct_front (map name_of (params_of p m ++ map local_name fixed)) (map name_of (map local_name others))
      (subst P (map_both name_of (params_of p m ++ map local_name fixed) (map local_name others))
      (subst Q (sym (append_assoc (params_of p m) (map local_name fixed) (map local_name others)))
      (let R : List ParamTree → Type 0 = λ z. all_distinct (map name_of (params_of p m ++ z)) ≡ true in subst R (map_both local_name fixed others) d)))

  body_front : (n : ℕ) (m : MethodTree) (e : slice_get p.methods n ≡ Some m) → all_distinct (map name_of (params_of p m ++ map local_name (fixed_locals (form_of p m)))) ≡ true
  body_front n m e =
      fronts_apart m (fixed_locals (form_of p m)) _ (both_true (all_distinct (map name_of (params_of p m ++ map local_name (body_locals (form_of p m))))) _ (body_own p m (words_at n m e) [] refl).0).0

  entry_front : (n : ℕ) (m : MethodTree) (e : slice_get p.methods n ≡ Some m) → all_distinct (map name_of (params_of p m ++ map local_name (answer_locals (answers_of m.mark m.gives)))) ≡ true
  entry_front n m e = (both_true (all_distinct (map name_of (params_of p m ++ map local_name (answer_locals (answers_of m.mark m.gives))))) _ (entry_own p m (words_at n m e) n [] refl).0).0

  abbrev in_front : List ℕ → List ItemTree
  in_front done = I ++ method_functions p done

  parts_at : (done rest : List ℕ) → p.order ≡ done ++ rest → all_functions p ≡ in_front done ++ method_functions p rest
  parts_at done rest e = ap (λ z. I ++ method_functions p z) e ∙ (ap (λ z. I ++ z) (methods_both p done rest) ∙ sym (append_assoc I (method_functions p done) (method_functions p rest)))

  -- A body in its place, after the functions of the methods before it.
  module _ (acc done rest : List ℕ) (n : ℕ) (m : MethodTree) (order : p.order ≡ done ++ n ∷ rest) (e : slice_get p.methods n ≡ Some m) (calls : calls_only (has acc) m.body ≡ true) (known : (j : ℕ) → has acc j ≡ true → has done j ≡ true) where
    abbrev items : List ItemTree
    items = in_front done

    abbrev later_items : List ItemTree
    later_items = method_functions p (n ∷ rest)

    parts : all_functions p ≡ items ++ later_items
    parts = parts_at done (n ∷ rest) order

    rules : Rules m
    rules = rules_of m (method_is n m e)

    given : Given p n m (structs_of (before_function p items)) (functions_of items) (has acc)
    given = record {
      is = e;
      words = words_at n m e;
      few = few;
      args_are = rules.args_are;
      locals_are = rules.locals_are;
      fields_are = λ s it q. fields_rule 0 p.structs s it structs_are q;
      distinct = body_front n m e;
      io = refl;
      own = own_struct items later_items parts m.of rules.below;
      fields_apart = fields_distinct p fields own m.of;
    }

    body_found : (j : ℕ) (callee : MethodTree) → has acc j ≡ true → slice_get p.methods j ≡ Some callee → FoundAs p n m (structs_of (before_function p items)) (functions_of items) (has acc) given (body_name p callee) callee
    body_found j callee k q =
        let there = stands_behind (body_function (form_of p callee)) I (method_functions p done) (in_bodies p done j callee (known j k) q) in
        let code = touched (own_names (form_of p callee)) (body_code (form_of p callee)) (body_code (form_of p callee)) in
        record {
          function = record { linkage = Static; result_type = result_of callee; name = body_name p callee; params = params_of p callee; locals = body_locals (form_of p callee); body = code };
          there = function_found items there.0 Static (result_of callee) (body_name p callee) (params_of p callee) (body_locals (form_of p callee)) code (item_names items later_items parts) there.1;
          params = refl;
          result = refl;
        }

    entry_found : (j : ℕ) (callee : MethodTree) → has acc j ≡ true → slice_get p.methods j ≡ Some callee → callee.public ≡ true
        → FoundAs p n m (structs_of (before_function p items)) (functions_of items) (has acc) given (entry_name p callee) callee
    entry_found j callee k q public =
        let there = stands_behind (entry_function p j callee) I (method_functions p done) (in_methods p done j callee (known j k) q (left_or callee.public _ public)) in
        let locals = answer_locals (answers_of callee.mark callee.gives) in
        record {
          function = record { linkage = External; result_type = result_of callee; name = entry_name p callee; params = params_of p callee; locals = locals; body = entry_code p j callee };
          there = function_found items there.0 External (result_of callee) (entry_name p callee) (params_of p callee) locals (entry_code p j callee) (item_names items later_items parts) there.1;
          params = refl;
          result = refl;
        }

    body_there : Stands (body_function (form_of p m)) (all_functions p)
    body_there = stands_behind (body_function (form_of p m)) I M (in_bodies p p.order n m (ordered.each.all n (slice_get_within p.methods n m e)) e)

    own_body_typed : typed_item (before_function p items) (body_function (form_of p m)) ≡ true
    own_body_typed =
        let s = serves p n m (structs_of (before_function p items)) (functions_of items) (has acc) given method_is body_found entry_found base (λ co k. held_read (form_of p m) k) (λ co k. count_read (form_of p m) k) in
        body_typed p n m items (items_are items later_items parts) body_there.0 body_there.1 (has acc) given s
        (body_ok p n m (structs_of (before_function p items)) (functions_of items) (has acc) given s rules.result_is rules.body_is calls)

    -- And its entry after it, where it has one.
    module _ (entered : has_entry p n m ≡ true) where
      abbrev with_body : List ItemTree
      with_body = items ++ body_function (form_of p m) ∷ []

      own_items : method_items p n (slice_get p.methods n) ≡ body_function (form_of p m) ∷ entry_function p n m ∷ []
      own_items = ap (method_items p n) e ∙ by (has_entry p n m) entered
        where
          by : (b : Bool) → b ≡ true → body_function (form_of p m) ∷ (if b then entry_function p n m ∷ [] else []) ≡ body_function (form_of p m) ∷ entry_function p n m ∷ []
          by true k = refl
          by false k = absurd (cc k)

      entry_parts : all_functions p ≡ with_body ++ (entry_function p n m ∷ method_functions p rest)
      entry_parts =
          parts ∙ (ap (λ z. items ++ (z ++ method_functions p rest)) own_items ∙ sym (append_assoc items (body_function (form_of p m) ∷ []) (entry_function p n m ∷ method_functions p rest)))

      entry_place : Stands (entry_function p n m) (all_functions p)
      entry_place = stands_behind (entry_function p n m) I M (in_methods p p.order n m (ordered.each.all n (slice_get_within p.methods n m e)) e entered)

      own_entry_typed : typed_item (before_function p with_body) (entry_function p n m) ≡ true
      own_entry_typed =
          let behind_it = entry_function p n m ∷ method_functions p rest in
          let there = stands_behind (body_function (form_of p m)) items (body_function (form_of p m) ∷ []) (0, refl) in
          let code = touched (own_names (form_of p m)) (body_code (form_of p m)) (body_code (form_of p m)) in
          entry_typed p n m with_body (items_are with_body behind_it entry_parts) entry_place.0 entry_place.1 (record {
            own = own_struct with_body behind_it entry_parts m.of rules.below;
            fields_apart = fields_distinct p fields own m.of;
            distinct = entry_front n m e;
            words = words_at n m e;
            few = few;
            base = base;
            body = record { linkage = Static; result_type = result_of m; name = body_name p m; params = params_of p m; locals = body_locals (form_of p m); body = code };
            found = function_found with_body there.0 Static (result_of m) (body_name p m) (params_of p m) (body_locals (form_of p m)) code (item_names with_body behind_it entry_parts) there.1;
            params = refl;
            result = refl;
          })

    own_from : TypedFrom (before_function p items) (method_items p n (Some m))
    own_from = (own_body_typed, by (has_entry p n m) refl)
      where
        by : (b : Bool) → has_entry p n m ≡ b → TypedFrom (before_function p items ++ body_function (form_of p m) ∷ []) (if b then entry_function p n m ∷ [] else [])
        by false k = tt
        by true k =
            let P : List ItemTree → Type 0 = λ z. typed_item z (entry_function p n m) ≡ true in
            (subst P (sym (before_more p items (body_function (form_of p m) ∷ []))) (own_entry_typed k), tt)

  methods_from : (acc done rest : List ℕ) → p.order ≡ done ++ rest → calls_in_front p acc rest ≡ true → ((j : ℕ) → has acc j ≡ true → has done j ≡ true) → TypedFrom (before_function p (in_front done)) (method_functions p rest)
  methods_from acc done [] order calls known = tt
  methods_from acc done (n ∷ rest) order calls known =
      let q = both_true (calls_known (has acc) (slice_get p.methods n)) _ calls in
      let r = both_true (not (has acc n)) (calls_in_front p (n ∷ acc) rest) q.1 in
      by (slice_get p.methods n) refl q.0 (methods_from (n ∷ acc) (done ++ n ∷ []) rest (order ∙ sym (append_assoc done (n ∷ []) rest)) r.1 (λ j k. more j (nat_eq j n) refl k))
    where
      more : (j : ℕ) (b : Bool) → nat_eq j n ≡ b → (b || has acc j) ≡ true → has (done ++ n ∷ []) j ≡ true
      more j true e k = list_any-append (nat_eq j) done (n ∷ []) ∙ right_or (has done j) _ (left_or (nat_eq j n) false e)
      more j false e k = list_any-append (nat_eq j) done (n ∷ []) ∙ left_or (has done j) _ (known j k)

      next_front : (o : Option MethodTree) → slice_get p.methods n ≡ o → before_function p (in_front (done ++ n ∷ [])) ≡ before_function p (in_front done) ++ method_items p n o
      next_front o e =
          ap (λ z. before_function p (I ++ z)) (methods_both p done (n ∷ []) ∙ ap (λ z. method_functions p done ++ z) (append-nil (method_items p n (slice_get p.methods n)) ∙ ap (method_items p n) e))
          ∙ (ap (before_function p) (sym (append_assoc I (method_functions p done) (method_items p n o))) ∙ sym (before_more p (in_front done) (method_items p n o)))

      by : (o : Option MethodTree) → slice_get p.methods n ≡ o → calls_known (has acc) o ≡ true → TypedFrom (before_function p (in_front (done ++ n ∷ []))) (method_functions p rest)
          → TypedFrom (before_function p (in_front done)) (method_items p n o ++ method_functions p rest)
      by None e k later = absurd (cc k)
      by (Some m) e k later =
          let P : List ItemTree → Type 0 = λ z. TypedFrom z (method_functions p rest) in
          from_both (before_function p (in_front done)) (method_items p n (Some m)) (method_functions p rest) (own_from acc done rest n m order e k known) (subst P (next_front (Some m) e) later)

  -- ---- all of it

  abbrev A : List ItemTree
  A = structs_part p

  abbrev X : List ItemTree
  X = texts_part p

  abbrev H : List ItemTree
  H = helpers_part p

  unit_from : TypedFrom (io_buffer_item ∷ []) (A ++ (X ++ (H ++ (I ++ M))))
  unit_from =
      let io = io_buffer_item ∷ [] in
      let P : List ItemTree → Type 0 = λ z. TypedFrom z (I ++ M) in
      let functions : TypedFrom (((io ++ A) ++ X) ++ H) (I ++ M) =
      subst P (sym (append_assoc (io ++ A) X H ∙ append_assoc io A (X ++ H) ∙ ap (λ z. io ++ (A ++ (X ++ z))) (sym (append-nil H)))) (from_both (before_function p []) I M (inits_from [] p.struct_order refl placed.rises) (let Q : List ItemTree → Type 0 = λ z. TypedFrom z M in subst Q (front_of_methods) (methods_from [] [] p.order refl ordered.calls (λ j k. absurd (cc k))))) in
      from_both io A (X ++ (H ++ (I ++ M))) (structs_from [] p.struct_order placed.rises) (from_both (io ++ A) X (H ++ (I ++ M)) (texts_from (io ++ A) (all_functions p) 0 p.statuses)
      (from_both ((io ++ A) ++ X) H (I ++ M) (helpers_from ((io ++ A) ++ X) (all_functions p) all_saturating helpers_typed) functions))
    where
      front_of_methods : before_function p (in_front []) ≡ before_function p [] ++ I
      front_of_methods = ap (before_function p) (append-nil I) ∙ sym (before_more p [] I)

  unit_typed : (i : ℕ) (item : ItemTree) → slice_get (lowered_unit p) (suc i) ≡ Some item → typed_item (take (suc i) (lowered_unit p)) item ≡ true
  unit_typed i item e =
      let P : List ItemTree → Type 0 = λ z. slice_get z (suc i) ≡ Some item in
      let Q : List ItemTree → Type 0 = λ z. typed_item (take (suc i) z) item ≡ true in
      subst Q (sym whole) (from_at (io_buffer_item ∷ []) (A ++ (X ++ (H ++ (I ++ M)))) unit_from i item (subst P whole e))

pub texts_are_typed : TextsAreTyped
texts_are_typed p well named own fields short base = unit_typed p well named own fields short base
