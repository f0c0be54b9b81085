-- A text of the unit form has no two functions of one name.
use Rattle.std.proofs.Common.{◌≡◌, ℕ, Bool, true, false, not, List, [], ◌∷◌, ◌++◌, length, map, Option, Some, None, refl, sym, ap, ◌∙◌, subst}
use Rattle.std.specs.Prelude.{◌&&◌, ◌||◌, if◌then◌else◌, reverse, bytes_eq}
use Rattle.std.proofs.lemmas.List.{append_assoc, append-nil, reverse-append}
use Rattle.wf_text.specs.Surface.{Surface}
use Rattle.c_text.specs.CTree.{ItemTree, struct_item, text_item, function_item}
use Rattle.c_text.proofs.Names.{bytes_eq-true, bytes_eq-refl}
use Rattle.c_meaning.specs.CTypes.{Function, functions_of}
use Rattle.c_meaning.specs.CCall.{program_of}
use Rattle.c_meaning.specs.UnitForm.{is_among, item_name, is_library, free_name, formed_content, meets_surface, formed_item, break_from, HasUnitForm}
use Rattle.c_step_exprs.specs.Resolving.{function_number}
use Rattle.c_step_program.specs.Programs.{AreApart}

pub other_way : (a b : List ℕ) → bytes_eq a b ≡ false → bytes_eq b a ≡ false
other_way a b e = by_test (bytes_eq b a) refl
  where
    by_test : (t : Bool) → bytes_eq b a ≡ t → bytes_eq b a ≡ false
    by_test false h = h
    by_test true h = let s : b ≡ a = bytes_eq-true b a h in absurd (cc (subst (λ (x : List ℕ). bytes_eq a x ≡ false) s e, bytes_eq-refl a))

-- No function has the name.
abbrev NoneNamed : List ℕ → List Function → Type 0
NoneNamed name [] = Unit {0}
NoneNamed name (f ∷ fs) = (bytes_eq f.name name ≡ false) × NoneNamed name fs

none_both : (name : List ℕ) (fs gs : List Function) → NoneNamed name fs → NoneNamed name gs → NoneNamed name (fs ++ gs)
none_both name [] gs h k = k
none_both name (f ∷ fs) gs h k = (h.0, none_both name fs gs h.1 k)

none_reversed : (name : List ℕ) (fs : List Function) → NoneNamed name fs → NoneNamed name (reverse fs)
none_reversed name [] h = tt
none_reversed name (f ∷ fs) h = subst (NoneNamed name) (sym (reverse-append (f ∷ []) fs)) (none_both name (reverse fs) (f ∷ []) (none_reversed name fs h.1) (h.0, tt))

none_numbered : (name : List ℕ) (fs : List Function) → NoneNamed name fs → function_number fs name ≡ None
none_numbered name [] h = refl
none_numbered name (f ∷ fs) h = ap (λ (b : Bool). if b then Some (length fs) else function_number fs name) h.0 ∙ none_numbered name fs h.1

pub neither : (a b : Bool) → (a || b) ≡ false → (a ≡ false) × (b ≡ false)
neither false b e = (refl, e)
neither true b e = absurd (cc (e))

none_among : (name : List ℕ) (items : List ItemTree) → is_among (map item_name items) name ≡ false → NoneNamed name (functions_of items)
none_among name [] e = tt
none_among name (struct_item fields n ∷ items) e = none_among name items (neither (bytes_eq name n) _ e).1
none_among name (text_item n bytes ∷ items) e = none_among name items (neither (bytes_eq name n) _ e).1
none_among name (function_item linkage type n params locals body ∷ items) e =
    let h : (bytes_eq name n ≡ false) × (is_among (map item_name items) name ≡ false) = neither (bytes_eq name n) _ e in
    (other_way name n h.0, none_among name items h.1)

-- One item more.
pub functions_append : (xs ys : List ItemTree) → functions_of (xs ++ ys) ≡ functions_of xs ++ functions_of ys
functions_append [] ys = refl
functions_append (struct_item fields n ∷ xs) ys = functions_append xs ys
functions_append (text_item n bytes ∷ xs) ys = functions_append xs ys
functions_append (function_item linkage type n params locals body ∷ xs) ys =
    ap (λ (fs : List Function). record { linkage = linkage; result_type = type; name = n; params = params; locals = locals; body = body } ∷ fs) (functions_append xs ys)

one_more : (before : List ItemTree) (item : ItemTree) → is_among (map item_name before) (item_name item) ≡ false → AreApart (reverse (functions_of before)) → AreApart (reverse (functions_of (before ++ item ∷ [])))
one_more before (struct_item fields n) e h = subst (λ (fs : List Function). AreApart (reverse fs)) (sym (functions_append before (struct_item fields n ∷ []) ∙ append-nil (functions_of before))) h
one_more before (text_item n bytes) e h = subst (λ (fs : List Function). AreApart (reverse fs)) (sym (functions_append before (text_item n bytes ∷ []) ∙ append-nil (functions_of before))) h
one_more before (function_item linkage type n params locals body) e h =
    subst (λ (fs : List Function). AreApart (reverse fs)) (sym (functions_append before (function_item linkage type n params locals body ∷ [])))
    (subst AreApart (sym (reverse-append (functions_of before) (f ∷ [])))
    (none_numbered n (reverse (functions_of before)) (none_reversed n (functions_of before) (none_among n before e)), h))
  where
    f : Function
    f = record { linkage = linkage; result_type = type; name = n; params = params; locals = locals; body = body }

both : (a b : Bool) → (a && b) ≡ true → (a ≡ true) × (b ≡ true)
both true true e = (refl, refl)
both true false e = absurd (cc (e))
both false b e = absurd (cc (e))

negated : (b : Bool) → not b ≡ true → b ≡ false
negated false e = refl
negated true e = absurd (cc (e))

pub free : (p : Surface) (before : List ItemTree) (all : List (List ℕ)) (item : ItemTree) → formed_item p before all item ≡ true → is_among (map item_name before) (item_name item) ≡ false
free p [] all item e = refl
free p (first ∷ others) all item e =
    let h : (free_name (first ∷ others) item ≡ true) × ((formed_content (first ∷ others) all item && meets_surface p item) ≡ true) = both (free_name (first ∷ others) item) _ e in
    negated (is_among (map item_name (first ∷ others)) (item_name item)) (both (not (is_among (map item_name (first ∷ others)) (item_name item))) (not (is_library (item_name item))) h.0).0

pub formed_here : (b : Bool) (next : Option ℕ) (n : ℕ) → (if b then next else Some n) ≡ None → (b ≡ true) × (next ≡ None)
formed_here true next n e = (refl, e)
formed_here false next n e = absurd (cc (e))

apart_from : (p : Surface) (before all items : List ItemTree) → break_from p before all items ≡ None → AreApart (reverse (functions_of before)) → AreApart (reverse (functions_of (before ++ items)))
apart_from p before all [] e h = subst (λ (xs : List ItemTree). AreApart (reverse (functions_of xs))) (sym (append-nil before)) h
apart_from p before all (item ∷ items) e h =
    let k : (formed_item p before (map item_name all) item ≡ true) × (break_from p (before ++ item ∷ []) all items ≡ None) = formed_here (formed_item p before (map item_name all) item) _ (length before) e in
    subst (λ (xs : List ItemTree). AreApart (reverse (functions_of xs))) (append_assoc before (item ∷ []) items)
    (apart_from p (before ++ item ∷ []) all items k.1 (one_more before item (free p before (map item_name all) item k.0) h))

pub functions_apart : (p : Surface) (items : List ItemTree) → HasUnitForm p items → AreApart (program_of items).functions
functions_apart p items h = apart_from p [] items items h tt
