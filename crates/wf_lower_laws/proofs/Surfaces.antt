-- What a package's surface asks of its text is there: each public function with its signature, and the structs.
use Rattle.std.proofs.Common.{◌≡◌, ℕ, zero, suc, ◌+◌, ◌<◌, Bool, true, false, not, ◌&&◌, ◌||◌, List, [], ◌∷◌, ◌++◌, length, map, Option, Some, None, nat_eq, refl, sym, ap, ◌∙◌, subst, arith}
use Rattle.std.specs.Prelude.{if◌then◌else◌, slice_get, bytes_eq, codes}
use Rattle.std.specs.List.{list_all, AllByRecursion}
use Rattle.std.proofs.lemmas.Slice.Eq.{bytes_eq-Decides}
use Rattle.std.proofs.lemmas.Option.{slice_get_within}
use Rattle.wf_text.specs.Surface.{Surface, PublicStruct}
use Rattle.wf_ast.specs.TypedPackage.{StructTree, MethodTree, PackageTree, answers_of, surface_of, public_method, public_methods, public_structs}
use Rattle.wf_ast.proofs.Arena.{both_true}
use Rattle.c_text.specs.declared.kinds.CUint.{CUint}
use Rattle.c_text.specs.declared.kinds.CUint.TheVariants.{U8, U16, U32, U64}
use Rattle.c_text.specs.declared.kinds.Linkage.TheVariants.{External}
use Rattle.c_text.specs.CTree.{TypeTree, uint, size, boolean, uint_pointer, struct_pointer, text, Code, ParamTree, LocalTree, ItemTree, struct_item, function_item}
use Rattle.c_meaning.specs.CTypes.{same_uint, same_type}
use Rattle.c_meaning.specs.CRun.{struct_name}
use Rattle.c_meaning.specs.UnitForm.{is_among, all_distinct, item_name, args_params, Signature, method_signature, initialize_signature, struct_signatures, signatures, same_params, same_result, has_signature, is_struct, meets_signature, meets_struct, is_complete}
use Rattle.wf_exprs.specs.Names.{struct_called, struct_type, entry_name, initialize_name as lowering_name}
use Rattle.wf_lower_stmts.specs.Forms.{form_of}
use Rattle.wf_lower.specs.Bodies.{params_of, result_of, functions_of, body_function, answer_locals, entry_code, entry_function}
use Rattle.wf_lower.specs.Called.{has_entry}
use Rattle.wf_lower.specs.Unit.{struct_fields, struct_items, initialize_code, initialize_function, initialize_functions, method_functions, all_functions, used_texts, used_helpers, lowered_unit}
use Rattle.wf_exprs.specs.Helpers.{all_saturating}
use Rattle.wf_lower_laws.specs.SurfaceLaw.{TextsMeetSurfaces}
use Rattle.wf_lower_laws.proofs.Apart.{has, left_or, right_or, not_true}
use Rattle.wf_lower_laws.proofs.Names.{both_hold}
use Rattle.wf_lower_laws.proofs.Orders.{AreOrdered, methods_ordered, StructsOrdered, structs_ordered, one_number}
use Rattle.wf_lower_laws.proofs.ItemNames.{items_name_apart}

-- ---- items of a list

abbrev pub Stands : ItemTree → List ItemTree → Type 0
Stands item items = (i : ℕ) × (slice_get items i ≡ Some item)

pub stands_first : (item : ItemTree) (items : List ItemTree) → Stands item (item ∷ items)
stands_first item items = (0, refl)

pub stands_later : (item x : ItemTree) (items : List ItemTree) → Stands item items → Stands item (x ∷ items)
stands_later item x items h = (suc h.0, h.1)

pub stands_front : (item : ItemTree) (xs ys : List ItemTree) → Stands item xs → Stands item (xs ++ ys)
stands_front item [] ys h = absurd (cc h.1)
stands_front item (x ∷ xs) ys h = by h.0 h.1 (stands_front item xs ys)
  where
    by : (i : ℕ) → slice_get (x ∷ xs) i ≡ Some item → (Stands item xs → Stands item (xs ++ ys)) → Stands item (x ∷ (xs ++ ys))
    by zero e more = (0, e)
    by (suc i) e more = stands_later item x (xs ++ ys) (more (i, e))

pub stands_behind : (item : ItemTree) (xs ys : List ItemTree) → Stands item ys → Stands item (xs ++ ys)
stands_behind item [] ys h = h
stands_behind item (x ∷ xs) ys h = stands_later item x (xs ++ ys) (stands_behind item xs ys h)

pub stands : (i : ℕ) (items : List ItemTree) (item : ItemTree) (l : List ℕ) → slice_get items i ≡ Some item → item_name item ≡ l → is_among (map item_name items) l ≡ true
stands i [] item l e g = absurd (cc e)
stands zero (x ∷ items) item l e g =
    let same : x ≡ item = cc e in
    let name : l ≡ item_name x = sym g ∙ ap item_name (sym same) in
    left_or (bytes_eq l (item_name x)) (is_among (map item_name items) l) ((bytes_eq-Decides l (item_name x)).1 name)
stands (suc i) (x ∷ items) item l e g = right_or (bytes_eq l (item_name x)) (is_among (map item_name items) l) (stands i items item l e g)

-- Where names differ, two items of one name are one.
one_item : (items : List ItemTree) (i j : ℕ) (a b : ItemTree) → all_distinct (map item_name items) ≡ true → slice_get items i ≡ Some a → slice_get items j ≡ Some b → item_name a ≡ item_name b → a ≡ b
one_item [] i j a b d e g n = absurd (cc e)
one_item (x ∷ items) zero zero a b d e g n = cc (e, g)
one_item (x ∷ items) zero (suc j) a b d e g n =
    let same : x ≡ a = cc e in
    let name : item_name b ≡ item_name x = sym n ∙ ap item_name (sym same) in
    let q = both_true (not (is_among (map item_name items) (item_name x))) (all_distinct (map item_name items)) d in
    absurd (cc (stands j items b (item_name x) g name, not_true (is_among (map item_name items) (item_name x)) q.0))
one_item (x ∷ items) (suc i) zero a b d e g n =
    let same : x ≡ b = cc g in
    let name : item_name a ≡ item_name x = n ∙ ap item_name (sym same) in
    let q = both_true (not (is_among (map item_name items) (item_name x))) (all_distinct (map item_name items)) d in
    absurd (cc (stands i items a (item_name x) e name, not_true (is_among (map item_name items) (item_name x)) q.0))
one_item (x ∷ items) (suc i) (suc j) a b d e g n = one_item items i j a b (both_true (not (is_among (map item_name items) (item_name x))) (all_distinct (map item_name items)) d).1 e g n

-- ---- types that are the same

same_bytes : (l : List ℕ) → bytes_eq l l ≡ true
same_bytes l = (bytes_eq-Decides l l).1 refl

pub same_width : (u : CUint) → same_uint u u ≡ true
same_width U8 = refl
same_width U16 = refl
same_width U32 = refl
same_width U64 = refl

same_types : (t : TypeTree) → same_type t t ≡ true
same_types (uint u) = same_width u
same_types size = refl
same_types boolean = refl
same_types (uint_pointer u) = same_width u
same_types (struct_pointer name) = same_bytes name
same_types text = refl

params_same : (ps : List ParamTree) → same_params ps ps ≡ true
params_same [] = refl
params_same (p ∷ ps) = rw (same_types p.kind, same_bytes p.name, params_same ps) refl

result_same : (r : Option TypeTree) → same_result r r ≡ true
result_same None = refl
result_same (Some t) = same_types t

signed : (s : Signature) (result_type : Option TypeTree) (name : List ℕ) (params : List ParamTree) (locals : List LocalTree) (body : Code) → s.params ≡ params → s.result_type ≡ result_type
    → has_signature s (function_item External result_type name params locals body) ≡ true
signed s result_type name params locals body e g =
    let P : List ParamTree → Type 0 = λ ps. same_params s.params ps ≡ true in
    let R : Option TypeTree → Type 0 = λ r. same_result s.result_type r ≡ true in
    both_hold (same_params s.params params) _ (subst P e (params_same s.params)) (subst R g (result_same s.result_type))

-- ---- a surface's functions and structs in a text

-- A function of the surface is there, with its signature.
record Met (items : List ItemTree) (s : Signature) : Type 0 where
  item : ItemTree
  there : Stands item items
  named : item_name item ≡ s.name
  signature : has_signature s item ≡ true

record Found (items : List ItemTree) (name : List ℕ) : Type 0 where
  item : ItemTree
  there : Stands item items
  named : item_name item ≡ name
  structure : is_struct item ≡ true

all_append : (P : Signature → Type 0) (xs ys : List Signature) → AllByRecursion P xs → AllByRecursion P ys → AllByRecursion P (xs ++ ys)
all_append P [] ys h j = j
all_append P (x ∷ xs) ys h j = (h.0, all_append P xs ys h.1 j)

module _ (p : PackageTree) where
  pub in_inits : (ss : List ℕ) (s : ℕ) → has ss s ≡ true → Stands (initialize_function p s) (initialize_functions p ss)
  in_inits [] s h = absurd (cc h)
  in_inits (x ∷ ss) s h = by (nat_eq s x) refl h (in_inits ss s)
    where
      by : (b : Bool) → nat_eq s x ≡ b → (b || has ss s) ≡ true → (has ss s ≡ true → Stands (initialize_function p s) (initialize_functions p ss)) → Stands (initialize_function p s) (initialize_functions p (x ∷ ss))
      by true e k more =
          let P : ℕ → Type 0 = λ z. Stands (initialize_function p s) (initialize_function p z ∷ initialize_functions p ss) in
          subst P (one_number s x e) (stands_first (initialize_function p s) (initialize_functions p ss))
      by false e k more = stands_later _ _ _ (more k)

  pub in_structs : (ss : List ℕ) (s : ℕ) → has ss s ≡ true → Stands (struct_item (struct_fields p s) (struct_type p s)) (struct_items p ss)
  in_structs [] s h = absurd (cc h)
  in_structs (x ∷ ss) s h = by (nat_eq s x) refl h (in_structs ss s)
    where
      by : (b : Bool) → nat_eq s x ≡ b → (b || has ss s) ≡ true → (has ss s ≡ true → Stands (struct_item (struct_fields p s) (struct_type p s)) (struct_items p ss)) → Stands (struct_item (struct_fields p s) (struct_type p s)) (struct_items p (x ∷ ss))
      by true e k more =
          let P : ℕ → Type 0 = λ z. Stands (struct_item (struct_fields p s) (struct_type p s)) (struct_item (struct_fields p z) (struct_type p z) ∷ struct_items p ss) in
          subst P (one_number s x e) (stands_first _ (struct_items p ss))
      by false e k more = stands_later _ _ _ (more k)

  -- The entry of a method that has one.
  pub entry_there : (n : ℕ) (m : MethodTree) → has_entry p n m ≡ true → Stands (entry_function p n m) (functions_of p n (Some m))
  entry_there n m h = stands_later _ (body_function (form_of p m)) _ (by (has_entry p n m) h)
    where
      by : (b : Bool) → b ≡ true → Stands (entry_function p n m) (if b then entry_function p n m ∷ [] else [])
      by true e = stands_first (entry_function p n m) []
      by false e = absurd (cc e)

  pub in_methods : (ns : List ℕ) (n : ℕ) (m : MethodTree) → has ns n ≡ true → slice_get p.methods n ≡ Some m → has_entry p n m ≡ true → Stands (entry_function p n m) (method_functions p ns)
  in_methods [] n m h e g = absurd (cc h)
  in_methods (x ∷ ns) n m h e g = by (nat_eq n x) refl h (λ k. in_methods ns n m k e g)
    where
      by : (b : Bool) → nat_eq n x ≡ b → (b || has ns n) ≡ true → (has ns n ≡ true → Stands (entry_function p n m) (method_functions p ns)) → Stands (entry_function p n m) (functions_of p x (slice_get p.methods x) ++ method_functions p ns)
      by true t k more =
          let P : ℕ → Type 0 = λ z. Stands (entry_function p n m) (functions_of p z (slice_get p.methods z) ++ method_functions p ns) in
          let Q : Option MethodTree → Type 0 = λ o. Stands (entry_function p n m) (functions_of p n o ++ method_functions p ns) in
          subst P (one_number n x t) (subst Q (sym e) (stands_front (entry_function p n m) (functions_of p n (Some m)) (method_functions p ns) (entry_there n m g)))
      by false t k more = stands_behind (entry_function p n m) (functions_of p x (slice_get p.methods x)) (method_functions p ns) (more k)

  -- The groups of a text.
  function_there : (item : ItemTree) → Stands item (all_functions p) → Stands item (lowered_unit p)
  unfolding lowered_unit
  function_there item h =
      stands_later item _ _ (stands_behind item (struct_items p p.struct_order) _ (stands_behind item (used_texts (all_functions p) 0 p.statuses) _ (stands_behind item (used_helpers (all_functions p) all_saturating) (all_functions p) h)))

  struct_there : (item : ItemTree) → Stands item (struct_items p p.struct_order) → Stands item (lowered_unit p)
  unfolding lowered_unit
  struct_there item h = stands_later item _ _ (stands_front item (struct_items p p.struct_order) _ h)

  module _ (o : AreOrdered p) (q : StructsOrdered p) where
    abbrev items : List ItemTree
    items = lowered_unit p

    init_there : (s : ℕ) → s < length p.structs → Stands (initialize_function p s) items
    init_there s l = function_there (initialize_function p s) (stands_front (initialize_function p s) (initialize_functions p p.struct_order) (method_functions p p.order) (in_inits p.struct_order s (q.each.all s l)))

    method_there : (n : ℕ) (m : MethodTree) → slice_get p.methods n ≡ Some m → m.public ≡ true → Stands (entry_function p n m) items
    method_there n m e g =
        function_there (entry_function p n m) (stands_behind (entry_function p n m) (initialize_functions p p.struct_order) (method_functions p p.order) (in_methods p.order n m (o.each.all n (slice_get_within p.methods n m e)) e (left_or m.public _ g)))

    -- A public struct by its number.
    record IsStruct (it : PublicStruct) : Type 0 where
      below : it.number < length p.structs
      named : struct_called p it.number ≡ it.name

    type_named : (surface : Surface) (it : PublicStruct) → surface.package_name ≡ p.package_name → IsStruct it → struct_type p it.number ≡ struct_name surface it
    type_named surface it e h = ap (λ x. codes "wuffs_" ++ (p.package_name ++ (codes "__" ++ x))) h.named ∙ ap (λ x. codes "wuffs_" ++ (x ++ (codes "__" ++ it.name))) (sym e)

    module _ (surface : Surface) (own : surface.package_name ≡ p.package_name) where
      init_met : (it : PublicStruct) → IsStruct it → Met items (initialize_signature surface it)
      init_met it h =
          let t = type_named surface it own h in
          record {
            item = initialize_function p it.number;
            there = init_there it.number h.below;
            named = ap (λ x. x ++ codes "__initialize") t;
            signature = signed (initialize_signature surface it) (Some text) (lowering_name p it.number) (record { kind = struct_pointer (struct_type p it.number); name = codes "self" } ∷ []) [] (initialize_code p it.number) (ap (λ x. record { kind = struct_pointer x; name = codes "self" } ∷ []) (sym t)) refl;
          }

      method_met : (it : PublicStruct) → IsStruct it → (n : ℕ) (m : MethodTree) → slice_get p.methods n ≡ Some m → m.public ≡ true → m.of ≡ it.number → Met items (method_signature surface it (public_method n m))
      method_met it h n m e g of =
          let t : struct_type p m.of ≡ struct_name surface it = ap (struct_type p) of ∙ type_named surface it own h in
          record {
            item = entry_function p n m;
            there = method_there n m e g;
            named = ap (λ x. x ++ (codes "__" ++ m.name)) t;
            signature = signed (method_signature surface it (public_method n m)) (result_of m) (entry_name p m) (params_of p m) (answer_locals (answers_of m.mark m.gives)) (entry_code p n m) (ap (λ x. record { kind = struct_pointer x; name = codes "self" } ∷ args_params (public_method n m).args) (sym t)) refl;
          }

      -- The methods from a number on.
      methods_met : (it : PublicStruct) → IsStruct it → (n : ℕ) (ms : List MethodTree) → ((i : ℕ) (m : MethodTree) → slice_get ms i ≡ Some m → slice_get p.methods (n + i) ≡ Some m)
          → AllByRecursion (Met items) (map (method_signature surface it) (public_methods it.number n ms))
      methods_met it h n [] at = tt
      methods_met it h n (m ∷ ms) at =
          by (m.public && nat_eq m.of it.number) refl (methods_met it h (suc n) ms (λ i x e. let same : n + suc i ≡ suc n + i = omega arith in let P : ℕ → Type 0 = λ k. slice_get p.methods k ≡ Some x in subst P same (at (suc i) x e)))
        where
          here : slice_get p.methods n ≡ Some m
          here = let same : n + 0 ≡ n = omega arith in let P : ℕ → Type 0 = λ k. slice_get p.methods k ≡ Some m in subst P same (at 0 m refl)

          by : (b : Bool) → (m.public && nat_eq m.of it.number) ≡ b → AllByRecursion (Met items) (map (method_signature surface it) (public_methods it.number (suc n) ms))
              → AllByRecursion (Met items) (map (method_signature surface it) (if b then public_method n m ∷ public_methods it.number (suc n) ms else public_methods it.number (suc n) ms))
          by true e more = let r = both_true m.public (nat_eq m.of it.number) e in (method_met it h n m here r.0 (one_number m.of it.number r.1), more)
          by false e more = more

      abbrev Structs : (n : ℕ) → List StructTree → Type 0
      Structs n ss = (i : ℕ) (s : StructTree) → slice_get ss i ≡ Some s → slice_get p.structs (n + i) ≡ Some s

      structs_next : (n : ℕ) (s : StructTree) (ss : List StructTree) → Structs n (s ∷ ss) → Structs (suc n) ss
      structs_next n s ss at i x e = let same : n + suc i ≡ suc n + i = omega arith in let P : ℕ → Type 0 = λ k. slice_get p.structs k ≡ Some x in subst P same (at (suc i) x e)

      abbrev public_one : (n : ℕ) (s : StructTree) → PublicStruct
      public_one n s = record { number = n; name = s.name; methods = public_methods n 0 p.methods }

      is_one : (n : ℕ) (s : StructTree) (ss : List StructTree) → Structs n (s ∷ ss) → IsStruct (public_one n s)
      is_one n s ss at =
          let same : n + 0 ≡ n = omega arith in
          let P : ℕ → Type 0 = λ k. slice_get p.structs k ≡ Some s in
          let here : slice_get p.structs n ≡ Some s = subst P same (at 0 s refl) in
          record { below = slice_get_within p.structs n s here; named = rw here refl }

      structs_met : (n : ℕ) (ss : List StructTree) → Structs n ss → AllByRecursion (Met items) (struct_signatures surface (public_structs p.methods n ss))
      structs_met n [] at = tt
      structs_met n (s ∷ ss) at = by s.public (structs_met (suc n) ss (structs_next n s ss at))
        where
          by : (b : Bool) → AllByRecursion (Met items) (struct_signatures surface (public_structs p.methods (suc n) ss))
              → AllByRecursion (Met items) (struct_signatures surface (if b then record { number = n; name = s.name; methods = public_methods n 0 p.methods } ∷ public_structs p.methods (suc n) ss else public_structs p.methods (suc n) ss))
          by true more =
              let it = public_one n s in
              let h = is_one n s ss at in
              (init_met it h, all_append (Met items) (map (method_signature surface it) it.methods) (struct_signatures surface (public_structs p.methods (suc n) ss)) (methods_met it h 0 p.methods (λ i m e. let same : i ≡ 0 + i = omega arith in let P : ℕ → Type 0 = λ k. slice_get p.methods k ≡ Some m in subst P same e)) more)
          by false more = more

      structs_found : (n : ℕ) (ss : List StructTree) → Structs n ss → AllByRecursion (λ it. Found items (struct_name surface it)) (public_structs p.methods n ss)
      structs_found n [] at = tt
      structs_found n (s ∷ ss) at = by s.public (structs_found (suc n) ss (structs_next n s ss at))
        where
          by : (b : Bool) → AllByRecursion (λ it. Found items (struct_name surface it)) (public_structs p.methods (suc n) ss)
              → AllByRecursion (λ it. Found items (struct_name surface it)) (if b then record { number = n; name = s.name; methods = public_methods n 0 p.methods } ∷ public_structs p.methods (suc n) ss else public_structs p.methods (suc n) ss)
          by true more =
              let it = public_one n s in
              let h = is_one n s ss at in
              (record { item = struct_item (struct_fields p n) (struct_type p n); there = struct_there _ (in_structs p.struct_order n (q.each.all n h.below)); named = type_named surface it own h; structure = refl }, more)
          by false more = more

-- ---- what is met

complete_of : (its : List ItemTree) (ss : List Signature) → AllByRecursion (Met its) ss → list_all (λ s. is_among (map item_name its) s.name) ss ≡ true
complete_of its [] h = refl
complete_of its (s ∷ ss) h = both_hold (is_among (map item_name its) s.name) _ (stands h.0.there.0 its h.0.item s.name h.0.there.1 h.0.named) (complete_of its ss h.1)

module _ (items : List ItemTree) (d : all_distinct (map item_name items) ≡ true) (i : ℕ) (item : ItemTree) (e : slice_get items i ≡ Some item) where
  signatures_met : (ss : List Signature) → AllByRecursion (Met items) ss → list_all (meets_signature item) ss ≡ true
  signatures_met [] h = refl
  signatures_met (s ∷ ss) h = both_hold (meets_signature item s) _ (by (bytes_eq s.name (item_name item)) refl) (signatures_met ss h.1)
    where
      by : (b : Bool) → bytes_eq s.name (item_name item) ≡ b → (if b then has_signature s item else true) ≡ true
      by false g = refl
      by true g =
          let same : h.0.item ≡ item = one_item items h.0.there.0 i h.0.item item d h.0.there.1 e (h.0.named ∙ (bytes_eq-Decides s.name (item_name item)).0 g) in
          let P : ItemTree → Type 0 = λ x. has_signature s x ≡ true in
          subst P same h.0.signature

  structures_met : (surface : Surface) (its : List PublicStruct) → AllByRecursion (λ it. Found items (struct_name surface it)) its → list_all (meets_struct surface item) its ≡ true
  structures_met surface [] h = refl
  structures_met surface (it ∷ its) h = both_hold (meets_struct surface item it) _ (by (bytes_eq (struct_name surface it) (item_name item)) refl) (structures_met surface its h.1)
    where
      by : (b : Bool) → bytes_eq (struct_name surface it) (item_name item) ≡ b → (if b then is_struct item else true) ≡ true
      by false g = refl
      by true g =
          let same : h.0.item ≡ item = one_item items h.0.there.0 i h.0.item item d h.0.there.1 e (h.0.named ∙ (bytes_eq-Decides (struct_name surface it) (item_name item)).0 g) in
          let P : ItemTree → Type 0 = λ x. is_struct x ≡ true in
          subst P same h.0.structure

complete_unit : (p : PackageTree) → list_all (λ s. is_among (map item_name (lowered_unit p)) s.name) (signatures (surface_of p)) ≡ true → is_complete (surface_of p) (lowered_unit p) ≡ true
unfolding lowered_unit
complete_unit p h = h

from_zero : (p : PackageTree) (i : ℕ) (s : StructTree) → slice_get p.structs i ≡ Some s → slice_get p.structs (0 + i) ≡ Some s
from_zero p i s e = let same : i ≡ 0 + i = omega arith in let P : ℕ → Type 0 = λ k. slice_get p.structs k ≡ Some s in subst P same e

pub texts_meet_surfaces : TextsMeetSurfaces
unfolding surface_of
texts_meet_surfaces p well names =
    let o = methods_ordered p well in
    let q = structs_ordered p well in
    let met = structs_met p o q (surface_of p) refl 0 p.structs (from_zero p) in
    let found = structs_found p o q (surface_of p) refl 0 p.structs (from_zero p) in
    let d = items_name_apart p names in
    record {
      meets = λ i item e. both_hold (list_all (meets_signature item) (signatures (surface_of p))) _ (signatures_met (lowered_unit p) d i item e (signatures (surface_of p)) met) (structures_met (lowered_unit p) d i item e (surface_of p) (surface_of p).structs found);
      complete = complete_unit p (complete_of (lowered_unit p) (signatures (surface_of p)) met);
    }
