-- The statuses and helpers of a text: all of them, and those that a text has.
use Rattle.std.proofs.Common.{◌≡◌, inl, inr, ℕ, zero, suc, ◌+◌, ◌<◌, ◌^◌, Bool, true, false, ◌||◌, List, [], ◌∷◌, ◌++◌, length, map, Option, Some, None, nat_eq, refl, sym, ap, subst, arith}
use Rattle.std.specs.Prelude.{if◌then◌else◌, cond, find, slice_get, bytes_eq, codes, is_some}
use Rattle.std.proofs.lemmas.Bool.Decides.{nat_tests}
use Rattle.std.proofs.lemmas.Slice.Eq.{bytes_eq-Decides}
use Rattle.wf_ast.specs.WellTyped.{is_width}
use Rattle.c_text.specs.declared.kinds.Linkage.TheVariants.{StaticInline}
use Rattle.c_text.specs.CTree.{leave, finish, ExprTree, variable, ItemTree, struct_item, text_item, function_item}
use Rattle.c_meaning.specs.CTypes.{CScope, TextDecl, Function, texts_of, functions_of, function_named, points_to, byte, passable, type_of, value_type, promoted}
use Rattle.c_meaning.specs.UnitForm.{all_distinct}
use Rattle.wf_exprs.specs.Names.{status_name}
use Rattle.wf_exprs.specs.Words.{num, width_of, uint_of}
use Rattle.wf_exprs.specs.Helpers.{saturating_value, all_saturating}
use Rattle.wf_exprs.specs.Exprs.{saturating_name, saturated, status_constant}
use Rattle.wf_lower.specs.Unit.{is_used, used_texts, helper_name, used_helpers}
use Rattle.wf_lower_laws.specs.KindLaw.{IsNum, IsText}
use Rattle.wf_lower_laws.proofs.Names.{both_hold}
use Rattle.wf_lower_laws.proofs.ItemNames.{helper_names_distinct}
use Rattle.wf_lower_laws.proofs.CodeTypes.{num_fits}
use Rattle.wf_lower_laws.proofs.Frames.{same_bytes}
use Rattle.wf_lower_laws.proofs.Finding.{found_at, found_front}

-- ---- statuses

abbrev pub all_texts : (n : ℕ) → List (List ℕ) → List TextDecl
all_texts n [] = []
all_texts n (bytes ∷ others) = record { name = status_name n; bytes = bytes } ∷ all_texts (suc n) others

abbrev text_at : List ℕ → List TextDecl → Option TextDecl
text_at l ts = find (λ it. bytes_eq it.name l) ts

unlike : (functions : List ItemTree) (l other : List ℕ) → is_used functions l ≡ true → is_used functions other ≡ false → bytes_eq other l ≡ false
unlike functions l other h n = by (bytes_eq other l) refl
  where
    by : (b : Bool) → bytes_eq other l ≡ b → bytes_eq other l ≡ false
    by false e = e
    by true e = let P : List ℕ → Type 0 = λ z. is_used functions z ≡ false in absurd (cc (subst P ((bytes_eq-Decides other l).0 e) n, h))

-- A status that a function reads is the same in both.
pub texts_alike : (functions : List ItemTree) (l : List ℕ) (n : ℕ) (ts : List (List ℕ)) → is_used functions l ≡ true → text_at l (texts_of (used_texts functions n ts)) ≡ text_at l (all_texts n ts)
texts_alike functions l n [] h = refl
texts_alike functions l n (bytes ∷ ts) h = by (is_used functions (status_name n)) refl (texts_alike functions l (suc n) ts h)
  where
    by : (b : Bool) → is_used functions (status_name n) ≡ b → text_at l (texts_of (used_texts functions (suc n) ts)) ≡ text_at l (all_texts (suc n) ts)
        → text_at l (texts_of (if b then text_item (status_name n) bytes ∷ used_texts functions (suc n) ts else used_texts functions (suc n) ts)) ≡ cond (bytes_eq (status_name n) l) (Some (record { name = status_name n; bytes = bytes })) (text_at l (all_texts (suc n) ts))
    by true e k = ap (λ o. cond (bytes_eq (status_name n) l) (Some (record { name = status_name n; bytes = bytes })) o) k
    by false e k = rw (unlike functions l (status_name n) h e) k

text_there : (k n : ℕ) (ts : List (List ℕ)) (i : ℕ) → n ≡ k + i → k + length ts < 2 ^ 64 → is_some (slice_get ts i) ≡ true → is_some (text_at (status_name n) (all_texts k ts)) ≡ true
text_there k n [] i e few h = absurd (cc h)
text_there k n (bytes ∷ ts) zero e few h =
    let same : k ≡ n = omega (arith, e) in
    let P : ℕ → Type 0 = λ z. is_some (cond (bytes_eq (status_name z) (status_name n)) (Some (record { name = status_name z; bytes = bytes })) (text_at (status_name n) (all_texts (suc z) ts))) ≡ true in
    subst P (sym same) (rw (same_bytes (status_name n)) refl)
text_there k n (bytes ∷ ts) (suc i) e few h = by (bytes_eq (status_name k) (status_name n)) (text_there (suc k) n ts i (omega (arith, e)) (omega (arith, few)) h)
  where
    by : (b : Bool) → is_some (text_at (status_name n) (all_texts (suc k) ts)) ≡ true → is_some (cond b (Some (record { name = status_name k; bytes = bytes })) (text_at (status_name n) (all_texts (suc k) ts))) ≡ true
    by true t = refl
    by false t = t

-- A status is a string where no local has its name.
pub constant_text : (S : CScope) (ts : List (List ℕ)) → S.texts ≡ all_texts 0 ts → length ts < 2 ^ 64 → (n : ℕ) → is_some (slice_get ts n) ≡ true → find (λ it. bytes_eq it.name (status_name n)) S.names ≡ None → IsText S (status_constant n)
constant_text S ts same few n there none = by (nat_eq n 0)
  where
    held : (o : Option TextDecl) → is_some o ≡ true → text_at (status_name n) S.texts ≡ o → type_of S (variable (status_name n)) ≡ Some (points_to byte)
    held None h e = absurd (cc h)
    held (Some t) h e = rw (none, e) refl

    all : is_some (text_at (status_name n) S.texts) ≡ true
    all = let P : List TextDecl → Type 0 = λ z. is_some (text_at (status_name n) z) ≡ true in subst P (sym same) (text_there 0 n ts n (omega arith) (omega (arith, few)) there)

    by : (b : Bool) → IsText S (if b then num 0 else variable (status_name n))
    by true = inl refl
    by false = inr (held (text_at (status_name n) S.texts) all refl)

-- ---- helpers

pub helpers_alike : (functions : List ItemTree) (l : List ℕ) (its : List ItemTree) → is_used functions l ≡ true → function_named (functions_of (used_helpers functions its)) l ≡ function_named (functions_of its) l
helpers_alike functions l [] h = refl
helpers_alike functions l (struct_item fields name ∷ its) h = by (is_used functions (helper_name (struct_item fields name))) (helpers_alike functions l its h)
  where
    by : (b : Bool) → function_named (functions_of (used_helpers functions its)) l ≡ function_named (functions_of its) l
        → function_named (functions_of (if b then struct_item fields name ∷ used_helpers functions its else used_helpers functions its)) l ≡ function_named (functions_of its) l
    by true k = k
    by false k = k
helpers_alike functions l (text_item name bytes ∷ its) h = by (is_used functions (helper_name (text_item name bytes))) (helpers_alike functions l its h)
  where
    by : (b : Bool) → function_named (functions_of (used_helpers functions its)) l ≡ function_named (functions_of its) l
        → function_named (functions_of (if b then text_item name bytes ∷ used_helpers functions its else used_helpers functions its)) l ≡ function_named (functions_of its) l
    by true k = k
    by false k = k
helpers_alike functions l (function_item linkage result_type name params locals body ∷ its) h = by (is_used functions name) refl (helpers_alike functions l its h)
  where
    it : Function
    it = record { linkage = linkage; result_type = result_type; name = name; params = params; locals = locals; body = body }

    by : (b : Bool) → is_used functions name ≡ b → function_named (functions_of (used_helpers functions its)) l ≡ function_named (functions_of its) l
        → function_named (functions_of (if b then function_item linkage result_type name params locals body ∷ used_helpers functions its else used_helpers functions its)) l
        ≡ cond (bytes_eq name l) (Some (record { linkage = linkage; result_type = result_type; name = name; params = params; locals = locals; body = body })) (function_named (functions_of its) l)
    by true e k = ap (λ o. cond (bytes_eq name l) (Some (record { linkage = linkage; result_type = result_type; name = name; params = params; locals = locals; body = body })) o) k
    by false e k = rw (unlike functions l name h e) k

abbrev helper : (sum : Bool) → (bits : ℕ) → Option Function → Type 0
helper sum bits o = o ≡ Some (record { linkage = StaticInline; result_type = Some (uint_of bits); name = saturating_name sum bits; params = record { kind = uint_of bits; name = codes "a" } ∷ record { kind = uint_of bits; name = codes "b" } ∷ []; locals = []; body = leave (Some (saturating_value sum bits)) finish })

helper_there : (sum : Bool) (bits : ℕ) → is_width bits ≡ true → helper sum bits (function_named (functions_of all_saturating) (saturating_name sum bits))
helper_there sum bits w = widths (nat_eq bits 8) (nat_eq bits 16) (nat_eq bits 32) (nat_eq bits 64) refl refl refl refl w
  where
    d : all_distinct (map (λ (f : Function). f.name) (functions_of all_saturating)) ≡ true
    d = helper_names_distinct

    at : (sum : Bool) (i j own : ℕ) → helper sum own (slice_get (functions_of all_saturating) i) → helper sum own (function_named (functions_of all_saturating) (saturating_name sum own))
    at sum i j own h = found_at (λ (f : Function). f.name) (functions_of all_saturating) i _ d h

    eight : (sum : Bool) → helper sum 8 (function_named (functions_of all_saturating) (saturating_name sum 8))
    eight true = at true 0 0 8 refl
    eight false = at false 4 0 8 refl

    sixteen : (sum : Bool) → helper sum 16 (function_named (functions_of all_saturating) (saturating_name sum 16))
    sixteen true = at true 1 0 16 refl
    sixteen false = at false 5 0 16 refl

    thirty_two : (sum : Bool) → helper sum 32 (function_named (functions_of all_saturating) (saturating_name sum 32))
    thirty_two true = at true 2 0 32 refl
    thirty_two false = at false 6 0 32 refl

    sixty_four : (sum : Bool) → helper sum 64 (function_named (functions_of all_saturating) (saturating_name sum 64))
    sixty_four true = at true 3 0 64 refl
    sixty_four false = at false 7 0 64 refl

    is : (k : ℕ) → nat_eq bits k ≡ true → k ≡ bits
    is k e = grind (arith, nat_tests, e)

    widths : (a b c e : Bool) → nat_eq bits 8 ≡ a → nat_eq bits 16 ≡ b → nat_eq bits 32 ≡ c → nat_eq bits 64 ≡ e → (a || (b || (c || e))) ≡ true → helper sum bits (function_named (functions_of all_saturating) (saturating_name sum bits))
    widths true b c e p q r t w = let Q : ℕ → Type 0 = λ z. helper sum z (function_named (functions_of all_saturating) (saturating_name sum z)) in subst Q (is 8 p) (eight sum)
    widths false true c e p q r t w = let Q : ℕ → Type 0 = λ z. helper sum z (function_named (functions_of all_saturating) (saturating_name sum z)) in subst Q (is 16 q) (sixteen sum)
    widths false false true e p q r t w = let Q : ℕ → Type 0 = λ z. helper sum z (function_named (functions_of all_saturating) (saturating_name sum z)) in subst Q (is 32 r) (thirty_two sum)
    widths false false false true p q r t w = let Q : ℕ → Type 0 = λ z. helper sum z (function_named (functions_of all_saturating) (saturating_name sum z)) in subst Q (is 64 t) (sixty_four sum)
    widths false false false false p q r t w = absurd (cc w)

-- The function of a saturating operator gives a number.
pub saturated_num : (S : CScope) (fs : List Function) → S.functions ≡ functions_of all_saturating ++ fs → (sum : Bool) (bits : ℕ) (x y : ExprTree) → is_width bits ≡ true → IsNum S x → IsNum S y → IsNum S (saturated sum bits x y)
saturated_num S fs same sum bits x y w h j =
    record { type = value_type (uint_of bits); is = rw (found, passed) refl; ty = promoted (width_of bits); counts = refl }
  where
    found : helper sum bits (function_named S.functions (saturating_name sum bits))
    found =
        let P : List Function → Type 0 = λ z. helper sum bits (function_named z (saturating_name sum bits)) in
        subst P (sym same) (found_front (λ (f : Function). f.name) (functions_of all_saturating) fs (saturating_name sum bits) _ (helper_there sum bits w))

    passed : passable (record { kind = uint_of bits; name = codes "a" } ∷ record { kind = uint_of bits; name = codes "b" } ∷ []) (type_of S x ∷ type_of S y ∷ []) ≡ true
    passed =
        let f = num_fits S (uint_of bits) x refl h in
        let g = num_fits S (uint_of bits) y refl j in
        rw (f.is, g.is) (both_hold _ _ f.fits (both_hold _ true g.fits refl))
