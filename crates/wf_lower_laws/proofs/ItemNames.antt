-- No two items of a text have one name.
use Rattle.std.proofs.Common.{◌≡◌, ◌⊎◌, inl, inr, ℕ, zero, suc, ◌+◌, ◌<◌, ◌≤◌, ◌^◌, Bool, true, false, not, ◌&&◌, ◌||◌, List, [], ◌∷◌, ◌++◌, length, map, Option, Some, None, nat_eq, refl, sym, ap, ◌∙◌, subst, arith, append_assoc}
use Rattle.std.specs.Prelude.{if◌then◌else◌, bytes_eq, codes, decimal, take, slice_get}
use Rattle.std.specs.List.{list_all}
use Rattle.std.proofs.lemmas.Fmt.{decimal_injective}
use Rattle.std.proofs.lemmas.List.{append_cancel_right}
use Rattle.std.proofs.lemmas.List.Folds.{list_any-append}
use Rattle.std.proofs.lemmas.Slice.Eq.{bytes_eq-Decides}
use Rattle.wf_ast.specs.TypedPackage.{MethodTree, PackageTree}
use Rattle.wf_ast.proofs.Arena.{both_true}
use Rattle.c_text.specs.CTree.{ItemTree, text_item}
use Rattle.c_meaning.specs.UnitForm.{is_among, all_distinct, item_name}
use Rattle.wf_exprs.specs.Names.{struct_called, status_name}
use Rattle.wf_exprs.specs.Helpers.{all_saturating}
use Rattle.wf_lower.specs.Bodies.{functions_of, entry_function}
use Rattle.wf_lower.specs.Called.{has_entry}
use Rattle.wf_lower.specs.Unit.{struct_items, initialize_functions, method_functions, all_functions, is_used, used_texts, helper_name, used_helpers, lowered_unit}
use Rattle.wf_lower_laws.specs.NameLaw.{begins}
use Rattle.wf_lower_laws.specs.ItemLaw.{is_clean, method_called, method_names, methods_called, HasItemNames, ItemsNameApart}
use Rattle.wf_lower_laws.proofs.Apart.{neither, left_or, right_or, not_true}
use Rattle.wf_lower_laws.proofs.Names.{either_true, both_hold, among_passes, distinct_both, distinct_by, Owned, owned_none, owned_next, distinct_next, after_prefix}
use Rattle.wf_lower_laws.proofs.OwnNames.{all_both, map_both}

-- ---- names with a seam

clean_rest : (a : ℕ) (bytes : List ℕ) → is_clean (a ∷ bytes) ≡ true → is_clean bytes ≡ true
clean_rest a [] h = refl
clean_rest a (b ∷ bytes) h = (both_true (not (nat_eq a 95 && nat_eq b 95)) (is_clean (b ∷ bytes)) h).1

no_seam : (x y : List ℕ) → is_clean (x ++ (codes "__" ++ y)) ≡ true → ⊥
no_seam [] y h = absurd (cc h)
no_seam (a ∷ x) y h = no_seam x y (clean_rest a (x ++ (codes "__" ++ y)) h)

-- A name that begins with all of another and a seam isn't clean.
seam_front : (c : ℕ) (x y z : List ℕ) → is_clean (c ∷ x) ≡ true → codes "__" ++ y ≡ c ∷ (x ++ (codes "__" ++ z)) → ⊥
seam_front c [] y z h e =
    let same : 95 ≡ c = cc e in
    let P : ℕ → Type 0 = λ c. is_clean (c ∷ []) ≡ true in
    let none : is_clean (95 ∷ []) ≡ true = subst P (sym same) h in
    absurd (cc none)
seam_front c (d ∷ x) y z h e =
    let one : 95 ≡ c = cc e in
    let other : 95 ≡ d = cc e in
    let P : ℕ → Type 0 = λ c. is_clean (c ∷ d ∷ x) ≡ true in
    let Q : ℕ → Type 0 = λ d. is_clean (95 ∷ d ∷ x) ≡ true in
    let none : is_clean (95 ∷ 95 ∷ x) ≡ true = subst Q (sym other) (subst P (sym one) h) in
    absurd (cc none)

pub one_seam : (x y v w : List ℕ) → is_clean x ≡ true → is_clean v ≡ true → x ++ (codes "__" ++ y) ≡ v ++ (codes "__" ++ w) → y ≡ w
one_seam [] y [] w h j e = after_prefix (codes "__") y w e
one_seam [] y (c ∷ v) w h j e = absurd (seam_front c v y w j e)
one_seam (a ∷ x) y [] w h j e = absurd (seam_front a x w y h (sym e))
one_seam (a ∷ x) y (c ∷ v) w h j e = one_seam x y v w (clean_rest a x h) (clean_rest c v j) (cc e)

-- The functions of saturating operators, by their widths.
widths_differ : (front : List ℕ) (a b : ℕ) → a < 2 ^ 64 → b < 2 ^ 64 → (a ≡ b → ⊥) → bytes_eq (front ++ decimal a) (front ++ decimal b) ≡ false
widths_differ front a b h j n = by (bytes_eq (front ++ decimal a) (front ++ decimal b)) refl
  where
    by : (t : Bool) → bytes_eq (front ++ decimal a) (front ++ decimal b) ≡ t → bytes_eq (front ++ decimal a) (front ++ decimal b) ≡ false
    by false e = e
    by true e = absurd (n (decimal_injective a b h j (after_prefix front (decimal a) (decimal b) ((bytes_eq-Decides (front ++ decimal a) (front ++ decimal b)).0 e))))

abbrev four_names : List ℕ → List (List ℕ)
four_names front = (front ++ decimal 8) ∷ (front ++ decimal 16) ∷ (front ++ decimal 32) ∷ (front ++ decimal 64) ∷ []

four_distinct : (front : List ℕ) → all_distinct (four_names front) ≡ true
four_distinct front =
    rw (
      widths_differ front 8 16 (omega arith) (omega arith) (λ e. absurd (omega (arith, e))),
      widths_differ front 8 32 (omega arith) (omega arith) (λ e. absurd (omega (arith, e))),
      widths_differ front 8 64 (omega arith) (omega arith) (λ e. absurd (omega (arith, e))),
      widths_differ front 16 32 (omega arith) (omega arith) (λ e. absurd (omega (arith, e))),
      widths_differ front 16 64 (omega arith) (omega arith) (λ e. absurd (omega (arith, e))),
      widths_differ front 32 64 (omega arith) (omega arith) (λ e. absurd (omega (arith, e))),
    ) refl

pub helper_names_distinct : all_distinct (map item_name all_saturating) ≡ true
helper_names_distinct = distinct_by (begins (codes "sat_plus_u")) (four_names (codes "sat_plus_u")) (four_names (codes "sat_minus_u")) refl refl (four_distinct (codes "sat_plus_u")) (four_distinct (codes "sat_minus_u"))

module _ (p : PackageTree) (h : HasItemNames p) where
  abbrev W : List ℕ → List ℕ
  W x = codes "wuffs_" ++ (p.package_name ++ (codes "__" ++ x))

  w_one : (x y : List ℕ) → W x ≡ W y → x ≡ y
  w_one x y e = after_prefix (codes "__") x y (after_prefix p.package_name (codes "__" ++ x) (codes "__" ++ y) (after_prefix (codes "wuffs_") _ _ e))

  w_more : (x y : List ℕ) → W x ++ y ≡ W (x ++ y)
  w_more x y = ap (λ z. codes "wuffs_" ++ z) (append_assoc p.package_name (codes "__" ++ x) y)

  -- What the name of an item of each kind is.
  data Kind (l : List ℕ) : Type 0 where
    of_struct : (s : ℕ) → is_clean (struct_called p s) ≡ true → l ≡ W (struct_called p s) → Kind l
    of_init : (s : ℕ) → is_clean (struct_called p s) ≡ true → l ≡ W (struct_called p s ++ codes "__initialize") → Kind l
    of_text : begins (codes "status_") l ≡ true → Kind l
    of_helper : begins (codes "sat_") l ≡ true → Kind l
    of_body : (n : ℕ) (m : MethodTree) → slice_get p.methods n ≡ Some m → l ≡ codes "body_" ++ method_called p m → Kind l
    of_entry : (n : ℕ) (m : MethodTree) → slice_get p.methods n ≡ Some m → l ≡ W (method_called p m) → Kind l

  -- Structs.
  structs_named : (ss : List ℕ) → map item_name (struct_items p ss) ≡ map W (map (struct_called p) ss)
  structs_named [] = refl
  structs_named (s ∷ ss) = ap (λ ls. W (struct_called p s) ∷ ls) (structs_named ss)

  inits_named : (ss : List ℕ) → map item_name (initialize_functions p ss) ≡ map (λ x. W (x ++ codes "__initialize")) (map (struct_called p) ss)
  inits_named [] = refl
  inits_named (s ∷ ss) = ap (λ l. l ∷ map item_name (initialize_functions p ss)) (w_more (struct_called p s) (codes "__initialize")) ∙ ap (λ ls. W (struct_called p s ++ codes "__initialize") ∷ ls) (inits_named ss)

  among_map : (g : List ℕ → List ℕ) → ((x y : List ℕ) → g x ≡ g y → x ≡ y) → (xs : List (List ℕ)) (x : List ℕ) → is_among (map g xs) (g x) ≡ true → is_among xs x ≡ true
  among_map g one [] x a = absurd (cc a)
  among_map g one (y ∷ xs) x a = by (either_true (bytes_eq (g x) (g y)) (is_among (map g xs) (g x)) a) (among_map g one xs x)
    where
      by : (bytes_eq (g x) (g y) ≡ true) ⊎ (is_among (map g xs) (g x) ≡ true) → (is_among (map g xs) (g x) ≡ true → is_among xs x ≡ true) → is_among (y ∷ xs) x ≡ true
      by (inl t) more = left_or (bytes_eq x y) (is_among xs x) ((bytes_eq-Decides x y).1 (one x y ((bytes_eq-Decides (g x) (g y)).0 t)))
      by (inr t) more = right_or (bytes_eq x y) (is_among xs x) (more t)

  distinct_map : (g : List ℕ → List ℕ) → ((x y : List ℕ) → g x ≡ g y → x ≡ y) → (xs : List (List ℕ)) → all_distinct xs ≡ true → all_distinct (map g xs) ≡ true
  distinct_map g one [] d = refl
  distinct_map g one (x ∷ xs) d =
      let q = both_true (not (is_among xs x)) (all_distinct xs) d in
      by (is_among (map g xs) (g x)) refl q.0 (distinct_map g one xs q.1)
    where
      by : (b : Bool) → is_among (map g xs) (g x) ≡ b → not (is_among xs x) ≡ true → all_distinct (map g xs) ≡ true → all_distinct (map g (x ∷ xs)) ≡ true
      by true a n k = absurd (cc (among_map g one xs x a, not_true (is_among xs x) n))
      by false a n k = rw (a, k) refl

  -- Names of each group.
  struct_among : (ss : List ℕ) (l : List ℕ) → list_all (λ s. is_clean (struct_called p s)) ss ≡ true → is_among (map item_name (struct_items p ss)) l ≡ true → (s : ℕ) × ((is_clean (struct_called p s) ≡ true) × (l ≡ W (struct_called p s)))
  struct_among [] l c a = absurd (cc a)
  struct_among (s ∷ ss) l c a =
      let q = both_true (is_clean (struct_called p s)) (list_all (λ s. is_clean (struct_called p s)) ss) c in
      by (either_true (bytes_eq l (W (struct_called p s))) (is_among (map item_name (struct_items p ss)) l) a) q.0 (struct_among ss l q.1)
    where
      by : (bytes_eq l (W (struct_called p s)) ≡ true) ⊎ (is_among (map item_name (struct_items p ss)) l ≡ true) → is_clean (struct_called p s) ≡ true
          → (is_among (map item_name (struct_items p ss)) l ≡ true → (s : ℕ) × ((is_clean (struct_called p s) ≡ true) × (l ≡ W (struct_called p s)))) → (s : ℕ) × ((is_clean (struct_called p s) ≡ true) × (l ≡ W (struct_called p s)))
      by (inl t) q more = (s, (q, (bytes_eq-Decides l (W (struct_called p s))).0 t))
      by (inr t) q more = more t

  init_among : (ss : List ℕ) (l : List ℕ) → list_all (λ s. is_clean (struct_called p s)) ss ≡ true → is_among (map item_name (initialize_functions p ss)) l ≡ true
      → (s : ℕ) × ((is_clean (struct_called p s) ≡ true) × (l ≡ W (struct_called p s ++ codes "__initialize")))
  init_among [] l c a = absurd (cc a)
  init_among (s ∷ ss) l c a =
      let q = both_true (is_clean (struct_called p s)) (list_all (λ s. is_clean (struct_called p s)) ss) c in
      by (either_true (bytes_eq l (W (struct_called p s) ++ codes "__initialize")) (is_among (map item_name (initialize_functions p ss)) l) a) q.0 (init_among ss l q.1)
    where
      by : (bytes_eq l (W (struct_called p s) ++ codes "__initialize") ≡ true) ⊎ (is_among (map item_name (initialize_functions p ss)) l ≡ true) → is_clean (struct_called p s) ≡ true
          → (is_among (map item_name (initialize_functions p ss)) l ≡ true → (s : ℕ) × ((is_clean (struct_called p s) ≡ true) × (l ≡ W (struct_called p s ++ codes "__initialize"))))
          → (s : ℕ) × ((is_clean (struct_called p s) ≡ true) × (l ≡ W (struct_called p s ++ codes "__initialize")))
      by (inl t) q more = (s, (q, (bytes_eq-Decides l (W (struct_called p s) ++ codes "__initialize")).0 t ∙ w_more (struct_called p s) (codes "__initialize")))
      by (inr t) q more = more t

  -- Methods: a body, and perhaps an entry.
  abbrev MethodOf : (key l : List ℕ) → Type 0
  MethodOf key l = (l ≡ codes "body_" ++ key) ⊎ (l ≡ W key)

  abbrev front : List ℕ → ℕ
  front [] = 0
  front (a ∷ l) = a

  method_one : (x y l : List ℕ) → MethodOf x l → MethodOf y l → x ≡ y
  method_one x y l (inl e) (inl g) = after_prefix (codes "body_") x y (sym e ∙ g)
  method_one x y l (inr e) (inr g) = w_one x y (sym e ∙ g)
  method_one x y l (inl e) (inr g) = let k : 98 ≡ 119 = ap front (sym e ∙ g) in absurd (omega (arith, k))
  method_one x y l (inr e) (inl g) = let k : 119 ≡ 98 = ap front (sym e ∙ g) in absurd (omega (arith, k))

  abbrev own_labels : (n : ℕ) → MethodTree → List (List ℕ)
  own_labels n m = map item_name (functions_of p n (Some m))

  own_among : (n : ℕ) (m : MethodTree) (l : List ℕ) → is_among (own_labels n m) l ≡ true → MethodOf (method_called p m) l
  own_among n m l a = by (has_entry p n m) a
    where
      entry : (bytes_eq l (W (struct_called p m.of) ++ (codes "__" ++ m.name)) ≡ true) ⊎ (false ≡ true) → MethodOf (method_called p m) l
      entry (inl t) = inr ((bytes_eq-Decides l (W (struct_called p m.of) ++ (codes "__" ++ m.name))).0 t ∙ w_more (struct_called p m.of) (codes "__" ++ m.name))
      entry (inr t) = absurd (cc t)

      by : (b : Bool) → is_among ((codes "body_" ++ method_called p m) ∷ map item_name (if b then entry_function p n m ∷ [] else [])) l ≡ true → MethodOf (method_called p m) l
      by false a = body (either_true (bytes_eq l (codes "body_" ++ method_called p m)) false a)
        where
          body : (bytes_eq l (codes "body_" ++ method_called p m) ≡ true) ⊎ (false ≡ true) → MethodOf (method_called p m) l
          body (inl t) = inl ((bytes_eq-Decides l (codes "body_" ++ method_called p m)).0 t)
          body (inr t) = absurd (cc t)
      by true a = body (either_true (bytes_eq l (codes "body_" ++ method_called p m)) _ a)
        where
          body : (bytes_eq l (codes "body_" ++ method_called p m) ≡ true) ⊎ ((bytes_eq l (W (struct_called p m.of) ++ (codes "__" ++ m.name)) || false) ≡ true) → MethodOf (method_called p m) l
          body (inl t) = inl ((bytes_eq-Decides l (codes "body_" ++ method_called p m)).0 t)
          body (inr t) = entry (either_true (bytes_eq l (W (struct_called p m.of) ++ (codes "__" ++ m.name))) false t)

  own_distinct : (n : ℕ) (m : MethodTree) → all_distinct (own_labels n m) ≡ true
  own_distinct n m = by (has_entry p n m)
    where
      by : (b : Bool) → all_distinct ((codes "body_" ++ method_called p m) ∷ map item_name (if b then entry_function p n m ∷ [] else [])) ≡ true
      by false = refl
      by true = refl

  methods_owned : (ns : List ℕ) → Owned MethodOf method_one (methods_called p ns) (map item_name (method_functions p ns))
  methods_owned [] = owned_none MethodOf method_one []
  methods_owned (n ∷ ns) = by (slice_get p.methods n) (methods_owned ns)
    where
      by : (o : Option MethodTree) → Owned MethodOf method_one (methods_called p ns) (map item_name (method_functions p ns)) → Owned MethodOf method_one (method_names p o ++ methods_called p ns) (map item_name (functions_of p n o ++ method_functions p ns))
      by None o = o
      by (Some m) o =
          let P : List (List ℕ) → Type 0 = Owned MethodOf method_one (method_called p m ∷ methods_called p ns) in
          subst P (sym (map_both item_name (functions_of p n (Some m)) (method_functions p ns))) (owned_next MethodOf method_one (method_called p m) (methods_called p ns) (own_labels n m) (map item_name (method_functions p ns)) (own_among n m) o)

  methods_distinct : (ns : List ℕ) → all_distinct (methods_called p ns) ≡ true → all_distinct (map item_name (method_functions p ns)) ≡ true
  methods_distinct [] d = refl
  methods_distinct (n ∷ ns) d = by (slice_get p.methods n) d (methods_owned ns) (methods_distinct ns)
    where
      by : (o : Option MethodTree) → all_distinct (method_names p o ++ methods_called p ns) ≡ true → Owned MethodOf method_one (methods_called p ns) (map item_name (method_functions p ns))
          → (all_distinct (methods_called p ns) ≡ true → all_distinct (map item_name (method_functions p ns)) ≡ true) → all_distinct (map item_name (functions_of p n o ++ method_functions p ns)) ≡ true
      by None d o more = more d
      by (Some m) d o more =
          let q = both_true (not (is_among (methods_called p ns) (method_called p m))) (all_distinct (methods_called p ns)) d in
          let P : List (List ℕ) → Type 0 = λ ls. all_distinct ls ≡ true in
          subst P (sym (map_both item_name (functions_of p n (Some m)) (method_functions p ns)))
          (distinct_next MethodOf method_one (method_called p m) (methods_called p ns) (own_labels n m) (map item_name (method_functions p ns)) q.0 (own_among n m) o (own_distinct n m) (more q.1))

  method_among : (ns : List ℕ) (l : List ℕ) → is_among (map item_name (method_functions p ns)) l ≡ true → (n : ℕ) × ((m : MethodTree) × ((slice_get p.methods n ≡ Some m) × MethodOf (method_called p m) l))
  method_among [] l a = absurd (cc a)
  method_among (n ∷ ns) l a = by (slice_get p.methods n) refl a (method_among ns l)
    where
      by : (o : Option MethodTree) → slice_get p.methods n ≡ o → is_among (map item_name (functions_of p n o ++ method_functions p ns)) l ≡ true
          → (is_among (map item_name (method_functions p ns)) l ≡ true → (n : ℕ) × ((m : MethodTree) × ((slice_get p.methods n ≡ Some m) × MethodOf (method_called p m) l)))
          → (n : ℕ) × ((m : MethodTree) × ((slice_get p.methods n ≡ Some m) × MethodOf (method_called p m) l))
      by None e a more = more a
      by (Some m) e a more =
          let P : List (List ℕ) → Type 0 = λ ls. is_among ls l ≡ true in
          split (either_true (is_among (own_labels n m) l) (is_among (map item_name (method_functions p ns)) l)
          (sym (list_any-append (bytes_eq l) (own_labels n m) (map item_name (method_functions p ns))) ∙ subst P (map_both item_name (functions_of p n (Some m)) (method_functions p ns)) a))
        where
          split : (is_among (own_labels n m) l ≡ true) ⊎ (is_among (map item_name (method_functions p ns)) l ≡ true) → (n : ℕ) × ((m : MethodTree) × ((slice_get p.methods n ≡ Some m) × MethodOf (method_called p m) l))
          split (inl t) = (n, (m, (e, own_among n m l t)))
          split (inr t) = more t

  -- Statuses.
  record TextName (n c : ℕ) (l : List ℕ) : Type 0 where
    number : ℕ
    least : n ≤ number
    most : number < n + c
    is : l ≡ status_name number

  text_among : (fs : List ItemTree) (n : ℕ) (ts : List (List ℕ)) (l : List ℕ) → is_among (map item_name (used_texts fs n ts)) l ≡ true → TextName n (length ts) l
  text_among fs n [] l a = absurd (cc a)
  text_among fs n (t ∷ ts) l a = by (is_used fs (status_name n)) a (text_among fs (suc n) ts l)
    where
      later : TextName (suc n) (length ts) l → TextName n (length (t ∷ ts)) l
      later k = record { number = k.number; least = omega (arith, k.least); most = omega (arith, k.most); is = k.is }

      by : (b : Bool) → is_among (map item_name (if b then text_item (status_name n) t ∷ used_texts fs (suc n) ts else used_texts fs (suc n) ts)) l ≡ true → (is_among (map item_name (used_texts fs (suc n) ts)) l ≡ true → TextName (suc n) (length ts) l) → TextName n (length (t ∷ ts)) l
      by false a more = later (more a)
      by true a more = split (either_true (bytes_eq l (status_name n)) (is_among (map item_name (used_texts fs (suc n) ts)) l) a)
        where
          split : (bytes_eq l (status_name n) ≡ true) ⊎ (is_among (map item_name (used_texts fs (suc n) ts)) l ≡ true) → TextName n (length (t ∷ ts)) l
          split (inl e) = record { number = n; least = omega arith; most = omega arith; is = (bytes_eq-Decides l (status_name n)).0 e }
          split (inr e) = later (more e)

  texts_distinct : (fs : List ItemTree) (n : ℕ) (ts : List (List ℕ)) → n + length ts < 2 ^ 64 → all_distinct (map item_name (used_texts fs n ts)) ≡ true
  texts_distinct fs n [] few = refl
  texts_distinct fs n (t ∷ ts) few = by (is_used fs (status_name n)) (texts_distinct fs (suc n) ts (omega (arith, few)))
    where
      alone : (b : Bool) → is_among (map item_name (used_texts fs (suc n) ts)) (status_name n) ≡ b → b ≡ false
      alone false a = refl
      alone true a =
          let k = text_among fs (suc n) ts (status_name n) a in
          let same : n ≡ k.number = decimal_injective n k.number (omega (arith, few)) (omega (arith, few, k.most)) (after_prefix (codes "status_") (decimal n) (decimal k.number) k.is) in
          absurd (omega (arith, same, k.least))

      by : (b : Bool) → all_distinct (map item_name (used_texts fs (suc n) ts)) ≡ true → all_distinct (map item_name (if b then text_item (status_name n) t ∷ used_texts fs (suc n) ts else used_texts fs (suc n) ts)) ≡ true
      by false d = d
      by true d = rw (alone (is_among (map item_name (used_texts fs (suc n) ts)) (status_name n)) refl, d) refl

  -- Helpers.
  fewer_helpers : (fs its : List ItemTree) (l : List ℕ) → is_among (map item_name its) l ≡ false → is_among (map item_name (used_helpers fs its)) l ≡ false
  fewer_helpers fs [] l a = refl
  fewer_helpers fs (it ∷ its) l a =
      let q = neither (bytes_eq l (item_name it)) (is_among (map item_name its) l) a in
      by (is_used fs (helper_name it)) q.0 (fewer_helpers fs its l q.1)
    where
      by : (b : Bool) → bytes_eq l (item_name it) ≡ false → is_among (map item_name (used_helpers fs its)) l ≡ false → is_among (map item_name (if b then it ∷ used_helpers fs its else used_helpers fs its)) l ≡ false
      by true e k = rw (e, k) refl
      by false e k = k

  helpers_distinct : (fs its : List ItemTree) → all_distinct (map item_name its) ≡ true → all_distinct (map item_name (used_helpers fs its)) ≡ true
  helpers_distinct fs [] d = refl
  helpers_distinct fs (it ∷ its) d =
      let q = both_true (not (is_among (map item_name its) (item_name it))) (all_distinct (map item_name its)) d in
      by (is_used fs (helper_name it)) (fewer_helpers fs its (item_name it) (not_true _ q.0)) (helpers_distinct fs its q.1)
    where
      by : (b : Bool) → is_among (map item_name (used_helpers fs its)) (item_name it) ≡ false → all_distinct (map item_name (used_helpers fs its)) ≡ true → all_distinct (map item_name (if b then it ∷ used_helpers fs its else used_helpers fs its)) ≡ true
      by true e k = rw (e, k) refl
      by false e k = k

  helpers_all : (T : List ℕ → Bool) (fs its : List ItemTree) → list_all T (map item_name its) ≡ true → list_all T (map item_name (used_helpers fs its)) ≡ true
  helpers_all T fs [] d = refl
  helpers_all T fs (it ∷ its) d =
      let q = both_true (T (item_name it)) (list_all T (map item_name its)) d in
      by (is_used fs (helper_name it)) q.0 (helpers_all T fs its q.1)
    where
      by : (b : Bool) → T (item_name it) ≡ true → list_all T (map item_name (used_helpers fs its)) ≡ true → list_all T (map item_name (if b then it ∷ used_helpers fs its else used_helpers fs its)) ≡ true
      by true e k = both_hold (T (item_name it)) _ e k
      by false e k = k

  -- A test that all names of a list pass.
  all_by : (T : List ℕ → Bool) (ls : List (List ℕ)) → ((l : List ℕ) → is_among ls l ≡ true → T l ≡ true) → list_all T ls ≡ true
  all_by T [] g = refl
  all_by T (l ∷ ls) g =
      both_hold (T l) (list_all T ls) (g l (left_or (bytes_eq l l) (is_among ls l) ((bytes_eq-Decides l l).1 refl))) (all_by T ls (λ x a. g x (right_or (bytes_eq x l) (is_among ls x) a)))

  -- The io buffer's struct.
  abbrev byte_at : ℕ → List ℕ → ℕ
  byte_at n [] = 0
  byte_at zero (a ∷ l) = a
  byte_at (suc n) (a ∷ l) = byte_at n l

  base_alone : (g x : List ℕ) → bytes_eq g (codes "base") ≡ false → g ++ (codes "__" ++ x) ≡ codes "base__io_buffer" → ⊥
  base_alone [] x b e = let k : 95 ≡ 98 = ap front e in absurd (omega (arith, k))
  base_alone (a ∷ []) x b e = let k : 95 ≡ 97 = ap (byte_at 1) e in absurd (omega (arith, k))
  base_alone (a ∷ c ∷ []) x b e = let k : 95 ≡ 115 = ap (byte_at 2) e in absurd (omega (arith, k))
  base_alone (a ∷ c ∷ d ∷ []) x b e = let k : 95 ≡ 101 = ap (byte_at 3) e in absurd (omega (arith, k))
  base_alone (a ∷ c ∷ d ∷ f ∷ []) x b e =
      let is : (a ∷ c ∷ d ∷ f ∷ []) ≡ codes "base" = ap (take 4) e in
      let k : bytes_eq (a ∷ c ∷ d ∷ f ∷ []) (codes "base") ≡ true = (bytes_eq-Decides (a ∷ c ∷ d ∷ f ∷ []) (codes "base")).1 is in
      absurd (cc (b, k))
  base_alone (a ∷ c ∷ d ∷ f ∷ i ∷ g) x b e =
      let rest : g ++ (codes "__" ++ x) ≡ codes "_io_buffer" = cc e in
      let P : List ℕ → Type 0 = λ z. is_clean z ≡ true in
      no_seam g x (subst P (sym rest) refl)

  not_io : (x : List ℕ) → W x ≡ codes "wuffs_base__io_buffer" → ⊥
  not_io x e = base_alone p.package_name x h.package_name (after_prefix (codes "wuffs_") _ (codes "base__io_buffer") e)

  -- ---- the groups together

  starts : (T : List ℕ → Bool) (l x : List ℕ) → l ≡ x → T x ≡ true → T l ≡ true
  starts T l x e g = let P : List ℕ → Type 0 = λ z. T z ≡ true in subst P (sym e) g

  method_passes : (T : List ℕ → Bool) → ((x : List ℕ) → (T (codes "body_" ++ x) ≡ true) × (T (W x) ≡ true)) → (ns : List ℕ) → list_all T (map item_name (method_functions p ns)) ≡ true
  method_passes T g ns = all_by T (map item_name (method_functions p ns)) (λ l a. of (method_among ns l a).1.1.1)
    where
      of : {key l : List ℕ} → MethodOf key l → T l ≡ true
      of {key} {l} (inl e) = starts T l (codes "body_" ++ key) e (g key).0
      of {key} {l} (inr e) = starts T l (W key) e (g key).1

  init_passes : (T : List ℕ → Bool) → ((x : List ℕ) → T (W x) ≡ true) → (ss : List ℕ) → list_all (λ s. is_clean (struct_called p s)) ss ≡ true → list_all T (map item_name (initialize_functions p ss)) ≡ true
  init_passes T g ss c = all_by T (map item_name (initialize_functions p ss)) (λ l a. let k = init_among ss l c a in starts T l (W (struct_called p k.0 ++ codes "__initialize")) k.1.1 (g (struct_called p k.0 ++ codes "__initialize")))

  struct_passes : (T : List ℕ → Bool) → ((x : List ℕ) → T (W x) ≡ true) → (ss : List ℕ) → list_all (λ s. is_clean (struct_called p s)) ss ≡ true → list_all T (map item_name (struct_items p ss)) ≡ true
  struct_passes T g ss c = all_by T (map item_name (struct_items p ss)) (λ l a. let k = struct_among ss l c a in starts T l (W (struct_called p k.0)) k.1.1 (g (struct_called p k.0)))

  text_passes : (T : List ℕ → Bool) → ((x : List ℕ) → T (codes "status_" ++ x) ≡ true) → (fs : List ItemTree) (n : ℕ) (ts : List (List ℕ)) → list_all T (map item_name (used_texts fs n ts)) ≡ true
  text_passes T g fs n ts = all_by T (map item_name (used_texts fs n ts)) (λ l a. let k = text_among fs n ts l a in starts T l (status_name k.number) k.is (g (decimal k.number)))

  differ : (ls ms : List (List ℕ)) → ((l : List ℕ) → is_among ls l ≡ true → is_among ms l ≡ true → ⊥) → (l : List ℕ) → is_among ls l ≡ true → is_among ms l ≡ false
  differ ls ms g l a = by (is_among ms l) refl
    where
      by : (b : Bool) → is_among ms l ≡ b → is_among ms l ≡ false
      by false e = e
      by true e = absurd (g l a e)

  init_or_method : (ss ns : List ℕ) → list_all (λ s. is_clean (struct_called p s)) ss ≡ true → (l : List ℕ) → is_among (map item_name (initialize_functions p ss)) l ≡ true → is_among (map item_name (method_functions p ns)) l ≡ true → ⊥
  init_or_method ss ns c l a b =
      let i = init_among ss l c a in
      let m = method_among ns l b in
      by i.0 i.1.0 i.1.1 m.0 m.1.0 m.1.1.0 m.1.1.1
    where
      by : (s : ℕ) → is_clean (struct_called p s) ≡ true → l ≡ W (struct_called p s ++ codes "__initialize") → (n : ℕ) (m : MethodTree) → slice_get p.methods n ≡ Some m → MethodOf (method_called p m) l → ⊥
      by s k e n m is (inl g) = let f : 119 ≡ 98 = ap front (sym e ∙ g) in absurd (omega (arith, f))
      by s k e n m is (inr g) =
          let o = h.owners n m is in
          let same : codes "initialize" ≡ m.name = one_seam (struct_called p s) (codes "initialize") (struct_called p m.of) m.name k o.0 (w_one (struct_called p s ++ codes "__initialize") (method_called p m) (sym e ∙ g)) in
          absurd (cc ((bytes_eq-Decides m.name (codes "initialize")).1 (sym same), o.1))

  struct_or_init : (ss ts : List ℕ) → list_all (λ s. is_clean (struct_called p s)) ss ≡ true → list_all (λ s. is_clean (struct_called p s)) ts ≡ true → (l : List ℕ) → is_among (map item_name (struct_items p ss)) l ≡ true → is_among (map item_name (initialize_functions p ts)) l ≡ true → ⊥
  struct_or_init ss ts c d l a b =
      let s = struct_among ss l c a in
      let i = init_among ts l d b in
      let same : struct_called p s.0 ≡ struct_called p i.0 ++ codes "__initialize" = w_one (struct_called p s.0) (struct_called p i.0 ++ codes "__initialize") (sym s.1.1 ∙ i.1.1) in
      let P : List ℕ → Type 0 = λ z. is_clean z ≡ true in
      no_seam (struct_called p i.0) (codes "initialize") (subst P same s.1.0)

  struct_or_method : (ss ns : List ℕ) → list_all (λ s. is_clean (struct_called p s)) ss ≡ true → (l : List ℕ) → is_among (map item_name (struct_items p ss)) l ≡ true → is_among (map item_name (method_functions p ns)) l ≡ true → ⊥
  struct_or_method ss ns c l a b =
      let s = struct_among ss l c a in
      let m = method_among ns l b in
      by s.0 s.1.0 s.1.1 m.1.0 m.1.1.1
    where
      by : (s : ℕ) → is_clean (struct_called p s) ≡ true → l ≡ W (struct_called p s) → (m : MethodTree) → MethodOf (method_called p m) l → ⊥
      by s k e m (inl g) = let f : 119 ≡ 98 = ap front (sym e ∙ g) in absurd (omega (arith, f))
      by s k e m (inr g) =
          let P : List ℕ → Type 0 = λ z. is_clean z ≡ true in
          no_seam (struct_called p m.of) m.name (subst P (w_one (struct_called p s) (method_called p m) (sym e ∙ g)) k)

  abbrev A : List (List ℕ)
  A = map item_name (struct_items p p.struct_order)

  abbrev T : List (List ℕ)
  T = map item_name (used_texts (all_functions p) 0 p.statuses)

  abbrev H : List (List ℕ)
  H = map item_name (used_helpers (all_functions p) all_saturating)

  abbrev I : List (List ℕ)
  I = map item_name (initialize_functions p p.struct_order)

  abbrev M : List (List ℕ)
  M = map item_name (method_functions p p.order)

  init_one : (x y : List ℕ) → W (x ++ codes "__initialize") ≡ W (y ++ codes "__initialize") → x ≡ y
  init_one x y e = append_cancel_right x y (codes "__initialize") (w_one (x ++ codes "__initialize") (y ++ codes "__initialize") e)

  functions_apart : all_distinct (I ++ M) ≡ true
  functions_apart =
      let P : List (List ℕ) → Type 0 = λ ls. all_distinct ls ≡ true in
      distinct_both I M (subst P (sym (inits_named p.struct_order)) (distinct_map (λ x. W (x ++ codes "__initialize")) init_one (map (struct_called p) p.struct_order) h.structs)) (methods_distinct p.order h.methods)
      (differ I M (init_or_method p.struct_order p.order h.clean))

  behind_apart : all_distinct (T ++ (H ++ (I ++ M))) ≡ true
  behind_apart =
      let S : List ℕ → Bool = λ l. begins (codes "status_") l in
      let F : List ℕ → Bool = λ l. begins (codes "sat_") l in
      distinct_by S T (H ++ (I ++ M)) (text_passes S (λ x. refl) (all_functions p) 0 p.statuses)
      (all_both (λ l. not (S l)) H (I ++ M) (helpers_all (λ l. not (S l)) (all_functions p) all_saturating refl)
      (all_both (λ l. not (S l)) I M (init_passes (λ l. not (S l)) (λ x. refl) p.struct_order h.clean) (method_passes (λ l. not (S l)) (λ x. (refl, refl)) p.order)))
      (texts_distinct (all_functions p) 0 p.statuses (omega (arith, h.few)))
      (distinct_by F H (I ++ M) (helpers_all F (all_functions p) all_saturating refl)
      (all_both (λ l. not (F l)) I M (init_passes (λ l. not (F l)) (λ x. refl) p.struct_order h.clean) (method_passes (λ l. not (F l)) (λ x. (refl, refl)) p.order))
      (helpers_distinct (all_functions p) all_saturating helper_names_distinct) functions_apart)

  no_struct : (l : List ℕ) → is_among A l ≡ true → is_among (T ++ (H ++ (I ++ M))) l ≡ true → ⊥
  no_struct l a b = text (either_true (is_among T l) (is_among (H ++ (I ++ M)) l) (sym (list_any-append (bytes_eq l) T (H ++ (I ++ M))) ∙ b))
    where
      wuffs : begins (codes "wuffs_") l ≡ true
      wuffs = among_passes (begins (codes "wuffs_")) A l (struct_passes (begins (codes "wuffs_")) (λ x. refl) p.struct_order h.clean) a

      function : (is_among I l ≡ true) ⊎ (is_among M l ≡ true) → ⊥
      function (inl t) = struct_or_init p.struct_order p.struct_order h.clean h.clean l a t
      function (inr t) = struct_or_method p.struct_order p.order h.clean l a t

      helper : (is_among H l ≡ true) ⊎ (is_among (I ++ M) l ≡ true) → ⊥
      helper (inl t) = absurd (cc (wuffs, not_true (begins (codes "wuffs_") l) (among_passes (λ l. not (begins (codes "wuffs_") l)) H l (helpers_all (λ l. not (begins (codes "wuffs_") l)) (all_functions p) all_saturating refl) t)))
      helper (inr t) = function (either_true (is_among I l) (is_among M l) (sym (list_any-append (bytes_eq l) I M) ∙ t))

      text : (is_among T l ≡ true) ⊎ (is_among (H ++ (I ++ M)) l ≡ true) → ⊥
      text (inl t) = absurd (cc (wuffs, not_true (begins (codes "wuffs_") l) (among_passes (λ l. not (begins (codes "wuffs_") l)) T l (text_passes (λ l. not (begins (codes "wuffs_") l)) (λ x. refl) (all_functions p) 0 p.statuses) t)))
      text (inr t) = helper (either_true (is_among H l) (is_among (I ++ M) l) (sym (list_any-append (bytes_eq l) H (I ++ M)) ∙ t))

  items_apart : all_distinct (codes "wuffs_base__io_buffer" ∷ (A ++ (T ++ (H ++ (I ++ M))))) ≡ true
  items_apart =
      let D : List ℕ → Bool = λ l. not (bytes_eq (codes "wuffs_base__io_buffer") l) in
      let P : List (List ℕ) → Type 0 = λ ls. all_distinct ls ≡ true in
      let structs = subst P (sym (structs_named p.struct_order)) (distinct_map W w_one (map (struct_called p) p.struct_order) h.structs) in
      let rest = distinct_both A (T ++ (H ++ (I ++ M))) structs behind_apart (differ A (T ++ (H ++ (I ++ M))) no_struct) in
      let others : list_all D (A ++ (T ++ (H ++ (I ++ M)))) ≡ true =
      all_both D A (T ++ (H ++ (I ++ M))) (struct_passes D not_it p.struct_order h.clean) (all_both D T (H ++ (I ++ M)) (text_passes D (λ x. refl) (all_functions p) 0 p.statuses)
      (all_both D H (I ++ M) (helpers_all D (all_functions p) all_saturating refl) (all_both D I M (init_passes D not_it p.struct_order h.clean) (method_passes D (λ x. (refl, not_it x)) p.order)))) in
      rw (alone (A ++ (T ++ (H ++ (I ++ M)))) others, rest) refl
    where
      not_it : (x : List ℕ) → not (bytes_eq (codes "wuffs_base__io_buffer") (W x)) ≡ true
      not_it x = by (bytes_eq (codes "wuffs_base__io_buffer") (W x)) refl
        where
          by : (b : Bool) → bytes_eq (codes "wuffs_base__io_buffer") (W x) ≡ b → not b ≡ true
          by false e = refl
          by true e = absurd (not_io x (sym ((bytes_eq-Decides (codes "wuffs_base__io_buffer") (W x)).0 e)))

      alone : (ls : List (List ℕ)) → list_all (λ l. not (bytes_eq (codes "wuffs_base__io_buffer") l)) ls ≡ true → is_among ls (codes "wuffs_base__io_buffer") ≡ false
      alone [] k = refl
      alone (l ∷ ls) k =
          let q = both_true (not (bytes_eq (codes "wuffs_base__io_buffer") l)) (list_all (λ l. not (bytes_eq (codes "wuffs_base__io_buffer") l)) ls) k in
          rw (not_true (bytes_eq (codes "wuffs_base__io_buffer") l) q.0) (alone ls q.1)

pub items_name_apart : ItemsNameApart
unfolding lowered_unit
items_name_apart p h =
    let P : List (List ℕ) → Type 0 = λ ls. all_distinct (codes "wuffs_base__io_buffer" ∷ ls) ≡ true in
    subst P (sym (parts p)) (items_apart p h)
  where
    parts : (p : PackageTree) → map item_name (struct_items p p.struct_order ++ (used_texts (all_functions p) 0 p.statuses ++ (used_helpers (all_functions p) all_saturating ++ all_functions p)))
        ≡ map item_name (struct_items p p.struct_order) ++ (map item_name (used_texts (all_functions p) 0 p.statuses) ++ (map item_name (used_helpers (all_functions p) all_saturating)
        ++ (map item_name (initialize_functions p p.struct_order) ++ map item_name (method_functions p p.order))))
    parts p =
        map_both item_name (struct_items p p.struct_order) _
        ∙ ap (λ ls. map item_name (struct_items p p.struct_order) ++ ls) (map_both item_name (used_texts (all_functions p) 0 p.statuses) _
        ∙ ap (λ ls. map item_name (used_texts (all_functions p) 0 p.statuses) ++ ls) (map_both item_name (used_helpers (all_functions p) all_saturating) _
        ∙ ap (λ ls. map item_name (used_helpers (all_functions p) all_saturating) ++ ls) (map_both item_name (initialize_functions p p.struct_order) (method_functions p p.order))))
