-- The items before a function of a text, and what a scope has of them.
use Rattle.std.proofs.Common.{◌≡◌, ℕ, zero, suc, Bool, true, false, List, [], ◌∷◌, ◌++◌, map, Option, Some, None, refl, sym, ap, ◌∙◌, subst, append-nil}
use Rattle.std.specs.Prelude.{if◌then◌else◌, cond, find, slice_get, bytes_eq, codes}
use Rattle.std.specs.List.{list_all, list_any}
use Rattle.std.proofs.lemmas.Slice.Eq.{bytes_eq-Decides}
use Rattle.wf_ast.specs.TypedPackage.{MethodTree, PackageTree}
use Rattle.wf_ast.proofs.Arena.{both_true}
use Rattle.c_text.specs.CTree.{Code, LocalTree, ItemTree, struct_item, text_item, function_item}
use Rattle.c_meaning.specs.CTypes.{TextDecl, Function, texts_of, functions_of, function_named, local_name}
use Rattle.c_meaning.specs.UnitForm.{is_among}
use Rattle.wf_exprs.specs.Names.{status_name}
use Rattle.wf_exprs.specs.Helpers.{all_saturating}
use Rattle.wf_exprs.specs.Reads.{code_reads}
use Rattle.wf_lower.specs.Bodies.{functions_of as method_items, entry_function, only_read}
use Rattle.wf_lower.specs.Called.{has_entry}
use Rattle.wf_lower.specs.Unit.{io_buffer_item, struct_items, initialize_functions, method_functions, all_functions, is_read_in, is_used, used_texts, used_helpers}
use Rattle.wf_lower_laws.specs.NameLaw.{begins}
use Rattle.wf_lower_laws.proofs.Apart.{left_or, right_or}
use Rattle.wf_lower_laws.proofs.Names.{both_hold, among_passes}
use Rattle.wf_lower_laws.proofs.Finding.{found_behind, found_alike, texts_both, functions_both}
use Rattle.wf_lower_laws.proofs.Statuses.{all_texts, texts_alike, helpers_alike}
use Rattle.wf_lower_laws.proofs.Scopes.{name_of}

-- Names that code reads are found alike among locals, and among those of them that it reads.
pub read_alike : (code : Code) (l : List ℕ) (ls : List LocalTree) → code_reads l code ≡ true → find (λ it. bytes_eq (name_of it) l) (map local_name (only_read code ls)) ≡ find (λ it. bytes_eq (name_of it) l) (map local_name ls)
read_alike code l [] h = refl
read_alike code l (x ∷ ls) h = by (code_reads x.name code) refl (read_alike code l ls h)
  where
    other : code_reads x.name code ≡ false → bytes_eq x.name l ≡ false
    other e = test (bytes_eq x.name l) refl
      where
        test : (b : Bool) → bytes_eq x.name l ≡ b → bytes_eq x.name l ≡ false
        test false g = g
        test true g = let P : List ℕ → Type 0 = λ z. code_reads z code ≡ false in absurd (cc (subst P ((bytes_eq-Decides x.name l).0 g) e, h))

    by : (b : Bool) → code_reads x.name code ≡ b → find (λ it. bytes_eq (name_of it) l) (map local_name (only_read code ls)) ≡ find (λ it. bytes_eq (name_of it) l) (map local_name ls)
        → find (λ it. bytes_eq (name_of it) l) (map local_name (if b then x ∷ only_read code ls else only_read code ls)) ≡ cond (bytes_eq x.name l) (Some (local_name x)) (find (λ it. bytes_eq (name_of it) l) (map local_name ls))
    by true e k = ap (λ o. cond (bytes_eq x.name l) (Some (local_name x)) o) k
    by false e k = rw (other e) k

-- ---- kinds of items

abbrev pub AreFunctions : List ItemTree → Type 0
AreFunctions [] = Unit {0}
AreFunctions (function_item linkage result_type name params locals body ∷ items) = AreFunctions items
AreFunctions (item ∷ items) = ⊥

pub functions_front : (xs ys : List ItemTree) → AreFunctions (xs ++ ys) → AreFunctions xs
functions_front [] ys h = tt
functions_front (function_item linkage result_type name params locals body ∷ xs) ys h = functions_front xs ys h
functions_front (struct_item fields name ∷ xs) ys h = absurd h
functions_front (text_item name bytes ∷ xs) ys h = absurd h

functions_join : (xs ys : List ItemTree) → AreFunctions xs → AreFunctions ys → AreFunctions (xs ++ ys)
functions_join [] ys h j = j
functions_join (function_item linkage result_type name params locals body ∷ xs) ys h j = functions_join xs ys h j
functions_join (struct_item fields name ∷ xs) ys h j = absurd h
functions_join (text_item name bytes ∷ xs) ys h j = absurd h

no_texts : (xs : List ItemTree) → AreFunctions xs → texts_of xs ≡ []
no_texts [] h = refl
no_texts (function_item linkage result_type name params locals body ∷ xs) h = no_texts xs h
no_texts (struct_item fields name ∷ xs) h = absurd h
no_texts (text_item name bytes ∷ xs) h = absurd h

module _ (p : PackageTree) where
  structs_texts : (ss : List ℕ) → texts_of (struct_items p ss) ≡ []
  structs_texts [] = refl
  structs_texts (s ∷ ss) = structs_texts ss

  structs_functions : (ss : List ℕ) → functions_of (struct_items p ss) ≡ []
  structs_functions [] = refl
  structs_functions (s ∷ ss) = structs_functions ss

  inits_are : (ss : List ℕ) → AreFunctions (initialize_functions p ss)
  inits_are [] = tt
  inits_are (s ∷ ss) = inits_are ss

  method_are : (n : ℕ) (o : Option MethodTree) → AreFunctions (method_items p n o)
  method_are n None = tt
  method_are n (Some m) = by (has_entry p n m)
    where
      by : (b : Bool) → AreFunctions (if b then entry_function p n m ∷ [] else [])
      by true = tt
      by false = tt

  methods_are : (ns : List ℕ) → AreFunctions (method_functions p ns)
  methods_are [] = tt
  methods_are (n ∷ ns) = functions_join (method_items p n (slice_get p.methods n)) (method_functions p ns) (method_are n (slice_get p.methods n)) (methods_are ns)

  pub functions_are : AreFunctions (all_functions p)
  functions_are = functions_join (initialize_functions p p.struct_order) (method_functions p p.order) (inits_are p.struct_order) (methods_are p.order)

texts_functions : (functions : List ItemTree) (n : ℕ) (ts : List (List ℕ)) → functions_of (used_texts functions n ts) ≡ []
texts_functions functions n [] = refl
texts_functions functions n (bytes ∷ ts) = by (is_used functions (status_name n)) (texts_functions functions (suc n) ts)
  where
    by : (b : Bool) → functions_of (used_texts functions (suc n) ts) ≡ [] → functions_of (if b then text_item (status_name n) bytes ∷ used_texts functions (suc n) ts else used_texts functions (suc n) ts) ≡ []
    by true k = k
    by false k = k

helpers_are : (functions its : List ItemTree) → AreFunctions its → AreFunctions (used_helpers functions its)
helpers_are functions [] h = tt
helpers_are functions (function_item linkage result_type name params locals body ∷ its) h = by (is_used functions name) (helpers_are functions its h)
  where
    by : (b : Bool) → AreFunctions (used_helpers functions its) → AreFunctions (if b then function_item linkage result_type name params locals body ∷ used_helpers functions its else used_helpers functions its)
    by true k = k
    by false k = k
helpers_are functions (struct_item fields name ∷ its) h = absurd h
helpers_are functions (text_item name bytes ∷ its) h = absurd h

helpers_all : (U : List ℕ → Bool) (functions its : List ItemTree) → AreFunctions its → list_all U (map (λ (f : Function). f.name) (functions_of its)) ≡ true → list_all U (map (λ (f : Function). f.name) (functions_of (used_helpers functions its))) ≡ true
helpers_all U functions [] a h = refl
helpers_all U functions (struct_item fields name ∷ its) a h = absurd a
helpers_all U functions (text_item name bytes ∷ its) a h = absurd a
helpers_all U functions (function_item linkage result_type name params locals body ∷ its) a h =
    let q = both_true (U name) (list_all U (map (λ (f : Function). f.name) (functions_of its))) h in
    by (is_used functions name) q.0 (helpers_all U functions its a q.1)
  where
    by : (b : Bool) → U name ≡ true → list_all U (map (λ (f : Function). f.name) (functions_of (used_helpers functions its))) ≡ true
        → list_all U (map (λ (f : Function). f.name) (functions_of (if b then function_item linkage result_type name params locals body ∷ used_helpers functions its else used_helpers functions its))) ≡ true
    by true t k = both_hold (U name) _ t k
    by false t k = k

-- ---- before a function

module _ (p : PackageTree) where
  abbrev pub structs_part : List ItemTree
  structs_part = struct_items p p.struct_order

  abbrev pub texts_part : List ItemTree
  texts_part = used_texts (all_functions p) 0 p.statuses

  abbrev pub helpers_part : List ItemTree
  helpers_part = used_helpers (all_functions p) all_saturating

  -- All that stands before the functions, and some of these.
  abbrev pub before_function : List ItemTree → List ItemTree
  before_function functions = io_buffer_item ∷ structs_part ++ (texts_part ++ (helpers_part ++ functions))

  module _ (functions : List ItemTree) (are : AreFunctions functions) where
    texts_are : texts_of (before_function functions) ≡ texts_of texts_part
    texts_are =
        texts_both structs_part (texts_part ++ (helpers_part ++ functions)) ∙ (ap (λ z. z ++ texts_of (texts_part ++ (helpers_part ++ functions))) (structs_texts p p.struct_order)
        ∙ (texts_both texts_part (helpers_part ++ functions) ∙ (ap (λ z. texts_of texts_part ++ z) (texts_both helpers_part functions ∙ (ap (λ z. z ++ texts_of functions) (no_texts helpers_part (helpers_are (all_functions p) all_saturating tt)) ∙ no_texts functions are))
        ∙ append-nil (texts_of texts_part))))

    functions_are_so : functions_of (before_function functions) ≡ functions_of helpers_part ++ functions_of functions
    functions_are_so =
        functions_both structs_part (texts_part ++ (helpers_part ++ functions)) ∙ (ap (λ z. z ++ functions_of (texts_part ++ (helpers_part ++ functions))) (structs_functions p p.struct_order)
        ∙ (functions_both texts_part (helpers_part ++ functions) ∙ (ap (λ z. z ++ functions_of (helpers_part ++ functions)) (texts_functions (all_functions p) 0 p.statuses) ∙ functions_both helpers_part functions)))

    -- A name that a function of the text reads.
    pub text_alike : (l : List ℕ) → is_used (all_functions p) l ≡ true → find (λ it. bytes_eq it.name l) (texts_of (before_function functions)) ≡ find (λ it. bytes_eq it.name l) (all_texts 0 p.statuses)
    text_alike l h = ap (λ (ts : List TextDecl). find (λ it. bytes_eq it.name l) ts) texts_are ∙ texts_alike (all_functions p) l 0 p.statuses h

    pub function_alike : (l : List ℕ) → is_used (all_functions p) l ≡ true → function_named (functions_of (before_function functions)) l ≡ function_named (functions_of all_saturating ++ functions_of functions) l
    function_alike l h =
        ap (λ fs. function_named fs l) functions_are_so
        ∙ found_alike (λ (f : Function). f.name) (functions_of helpers_part) (functions_of all_saturating) (functions_of functions) l (helpers_alike (all_functions p) l all_saturating h)

    -- And one that no helper has.
    pub other_alike : (l : List ℕ) → begins (codes "sat_") l ≡ false → function_named (functions_of (before_function functions)) l ≡ function_named (functions_of all_saturating ++ functions_of functions) l
    other_alike l h =
        let U : List ℕ → Bool = begins (codes "sat_") in
        let used : list_all U (map (λ (f : Function). f.name) (functions_of helpers_part)) ≡ true = helpers_all U (all_functions p) all_saturating tt refl in
        ap (λ fs. function_named fs l) functions_are_so
        ∙ (found_behind (λ (f : Function). f.name) (functions_of helpers_part) (functions_of functions) l (out U (map (λ (f : Function). f.name) (functions_of helpers_part)) l used h)
        ∙ sym (found_behind (λ (f : Function). f.name) (functions_of all_saturating) (functions_of functions) l (out U (map (λ (f : Function). f.name) (functions_of all_saturating)) l refl h)))
      where
        out : (U : List ℕ → Bool) (ls : List (List ℕ)) (l : List ℕ) → list_all U ls ≡ true → U l ≡ false → is_among ls l ≡ false
        out U ls l h e = by (is_among ls l) refl
          where
            by : (b : Bool) → is_among ls l ≡ b → is_among ls l ≡ false
            by false g = g
            by true g = absurd (cc (among_passes U ls l h g, e))

-- What a function of the text reads is used.
pub used_by : (functions : List ItemTree) (i : ℕ) (item : ItemTree) (l : List ℕ) → slice_get functions i ≡ Some item → is_read_in l item ≡ true → is_used functions l ≡ true
used_by [] i item l e h = absurd (cc e)
used_by (x ∷ functions) zero item l e h =
    let same : x ≡ item = cc e in
    let P : ItemTree → Type 0 = λ z. is_read_in l z ≡ true in
    left_or (is_read_in l x) (list_any (is_read_in l) functions) (subst P (sym same) h)
used_by (x ∷ functions) (suc i) item l e h = right_or (is_read_in l x) (list_any (is_read_in l) functions) (used_by functions i item l e h)
