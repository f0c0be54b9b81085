-- The functions of saturating operators stand in a text that reads them, and are found under their names.
use Rattle.std.proofs.Common.{◌≡◌, ℕ, zero, suc, Bool, true, false, not, ◌||◌, List, [], ◌∷◌, ◌++◌, map, Some, nat_eq, refl, sym, ◌∙◌, subst}
use Rattle.std.specs.Prelude.{cond, if◌then◌else◌, reverse, slice_get, bytes_eq}
use Rattle.std.proofs.lemmas.List.{reverse-append}
use Rattle.wf_ast.specs.TypedPackage.{PackageTree}
use Rattle.wf_ast.specs.WellTyped.{is_width}
use Rattle.wf_ast.proofs.Arena.{both_true}
use Rattle.c_text.specs.CTree.{ItemTree, struct_item, text_item, function_item}
use Rattle.c_meaning.specs.declared.values.CValue.{CValue}
use Rattle.c_meaning.specs.CMemory.{Memory}
use Rattle.c_meaning.specs.CStep.{Meaning, surroundings}
use Rattle.c_meaning.specs.CCall.{Program, ExprMeaning, program_of, expression_call, expression_meaning, running}
use Rattle.c_meaning.specs.CTypes.{Function, functions_of, function_named}
use Rattle.c_meaning.specs.UnitForm.{is_among, all_distinct, item_name}
use Rattle.wf_exprs.specs.Exprs.{saturating_name}
use Rattle.wf_exprs.specs.Helpers.{saturating, all_saturating}
use Rattle.wf_exprs_laws.specs.HelperLaw.{helper}
use Rattle.wf_exprs_laws.proofs.Saturating.{helper_law}
use Rattle.wf_lower.specs.Unit.{io_buffer_item, struct_items, all_functions, is_used, used_texts, helper_name, used_helpers, lowered_unit}
use Rattle.wf_lower_laws.specs.HelperLaw.{Operates, TextsHaveHelpers}
use Rattle.wf_lower_laws.proofs.Apart.{neither, not_true}
use Rattle.wf_lower_laws.proofs.Finding.{There, there_first, there_later, there_front, there_behind, found, found_front, found_behind, function_found}
use Rattle.wf_lower_laws.proofs.Frames.{same_bytes}
use Rattle.wf_lower_laws.proofs.ItemNames.{items_name_apart}
use Rattle.wf_lower_laws.proofs.Orders.{one_number}

-- ---- from behind

module _ {X : Type 0} (name : X → List ℕ) where
  one_more : (xs : List X) (x : X) (l : List ℕ) → is_among (map name xs) l ≡ false → bytes_eq l (name x) ≡ false → is_among (map name (xs ++ x ∷ [])) l ≡ false
  one_more [] x l h k = rw k refl
  one_more (y ∷ xs) x l h k =
      let q = neither (bytes_eq l (name y)) (is_among (map name xs) l) h in
      rw (q.0, one_more xs x l q.1 k) refl

  turned : (x : X) (xs : List X) → reverse (x ∷ xs) ≡ reverse xs ++ x ∷ []
  turned x xs = reverse-append (x ∷ []) xs

  none_behind : (xs : List X) (l : List ℕ) → is_among (map name xs) l ≡ false → is_among (map name (reverse xs)) l ≡ false
  none_behind [] l h = refl
  none_behind (x ∷ xs) l h =
      let q = neither (bytes_eq l (name x)) (is_among (map name xs) l) h in
      let P : List X → Type 0 = λ zs. is_among (map name zs) l ≡ false in
      subst P (sym (turned x xs)) (one_more (reverse xs) x l (none_behind xs l q.1) q.0)

  found_back : (xs : List X) (i : ℕ) (x : X) → all_distinct (map name xs) ≡ true → slice_get xs i ≡ Some x → found name (reverse xs) (name x) ≡ Some x
  found_back [] i x d e = absurd (cc e)
  found_back (y ∷ xs) zero x d e =
      let same : y ≡ x = cc e in
      let p = both_true (not (is_among (map name xs) (name y))) (all_distinct (map name xs)) d in
      let P : List X → Type 0 = λ zs. found name zs (name y) ≡ Some y in
      let Q : X → Type 0 = λ z. found name (reverse (y ∷ xs)) (name z) ≡ Some z in
      let own : found name (y ∷ []) (name y) ≡ Some y = rw (same_bytes (name y)) refl in
      subst Q same (subst P (sym (turned y xs)) (found_behind name (reverse xs) (y ∷ []) (name y) (none_behind xs (name y) (not_true (is_among (map name xs) (name y)) p.0)) ∙ own))
  found_back (y ∷ xs) (suc i) x d e =
      let p = both_true (not (is_among (map name xs) (name y))) (all_distinct (map name xs)) d in
      let P : List X → Type 0 = λ zs. found name zs (name x) ≡ Some x in
      subst P (sym (turned y xs)) (found_front name (reverse xs) (y ∷ []) (name x) x (found_back xs i x p.1 e))

-- ---- functions among items

fewer : (items : List ItemTree) (l : List ℕ) → is_among (map item_name items) l ≡ false → is_among (map (λ f. f.name) (functions_of items)) l ≡ false
fewer [] l h = refl
fewer (struct_item fields name ∷ items) l h = fewer items l (neither (bytes_eq l name) (is_among (map item_name items) l) h).1
fewer (text_item name bytes ∷ items) l h = fewer items l (neither (bytes_eq l name) (is_among (map item_name items) l) h).1
fewer (function_item linkage result_type name params locals body ∷ items) l h =
    let q = neither (bytes_eq l name) (is_among (map item_name items) l) h in
    rw (q.0, fewer items l q.1) refl

functions_distinct : (items : List ItemTree) → all_distinct (map item_name items) ≡ true → all_distinct (map (λ f. f.name) (functions_of items)) ≡ true
functions_distinct [] d = refl
functions_distinct (struct_item fields name ∷ items) d = functions_distinct items (both_true (not (is_among (map item_name items) name)) (all_distinct (map item_name items)) d).1
functions_distinct (text_item name bytes ∷ items) d = functions_distinct items (both_true (not (is_among (map item_name items) name)) (all_distinct (map item_name items)) d).1
functions_distinct (function_item linkage result_type name params locals body ∷ items) d =
    let p = both_true (not (is_among (map item_name items) name)) (all_distinct (map item_name items)) d in
    rw (fewer items name (not_true (is_among (map item_name items) name) p.0), functions_distinct items p.1) refl

function_there : (items : List ItemTree) (is_sum : Bool) (bits : ℕ) → There (saturating is_sum bits) items → There (helper is_sum bits) (functions_of items)
function_there [] is_sum bits h = absurd (cc h.1)
function_there (x ∷ items) is_sum bits h = by x h.0 h.1 (function_there items is_sum bits)
  where
    by : (x : ItemTree) (i : ℕ) → slice_get (x ∷ items) i ≡ Some (saturating is_sum bits) → (There (saturating is_sum bits) items → There (helper is_sum bits) (functions_of items)) → There (helper is_sum bits) (functions_of (x ∷ items))
    by x zero e more =
        let same : x ≡ saturating is_sum bits = cc e in
        let P : ItemTree → Type 0 = λ z. There (helper is_sum bits) (functions_of (z ∷ items)) in
        subst P (sym same) (there_first (helper is_sum bits) (functions_of items))
    by (struct_item fields name) (suc i) e more = more (i, e)
    by (text_item name bytes) (suc i) e more = more (i, e)
    by (function_item linkage result_type name params locals body) (suc i) e more = there_later (helper is_sum bits) _ (functions_of items) (more (i, e))

-- ---- those that a text has

kept : (fs its : List ItemTree) (it : ItemTree) → is_used fs (helper_name it) ≡ true → There it its → There it (used_helpers fs its)
kept fs [] it u h = absurd (cc h.1)
kept fs (x ∷ its) it u h = by h.0 h.1 (kept fs its it u)
  where
    past : (b : Bool) → There it (used_helpers fs its) → There it (if b then x ∷ used_helpers fs its else used_helpers fs its)
    past true k = there_later it x (used_helpers fs its) k
    past false k = k

    by : (i : ℕ) → slice_get (x ∷ its) i ≡ Some it → (There it its → There it (used_helpers fs its)) → There it (if is_used fs (helper_name x) then x ∷ used_helpers fs its else used_helpers fs its)
    by zero e more =
        let same : x ≡ it = cc e in
        let P : ItemTree → Type 0 = λ z. There it (if is_used fs (helper_name z) then z ∷ used_helpers fs its else used_helpers fs its) in
        subst P (sym same) (rw u (there_first it (used_helpers fs its)))
    by (suc i) e more = past (is_used fs (helper_name x)) (more (i, e))

abbrev Among : (is_sum : Bool) → ℕ → Type 0
Among is_sum bits = There (saturating is_sum bits) all_saturating

at_width : (is_sum : Bool) (bits wide : ℕ) → nat_eq bits wide ≡ true → Among is_sum wide → Among is_sum bits
at_width is_sum bits wide e h = let P : ℕ → Type 0 = λ n. Among is_sum n in subst P (sym (one_number bits wide e)) h

every : (is_sum : Bool) (bits : ℕ) → Among is_sum 8 → Among is_sum 16 → Among is_sum 32 → Among is_sum 64 → is_width bits ≡ true → Among is_sum bits
every is_sum bits a b c d w = by (nat_eq bits 8) (nat_eq bits 16) (nat_eq bits 32) refl refl refl w
  where
    by : (x y z : Bool) → nat_eq bits 8 ≡ x → nat_eq bits 16 ≡ y → nat_eq bits 32 ≡ z → (x || (y || (z || nat_eq bits 64))) ≡ true → Among is_sum bits
    by true y z e f g w = at_width is_sum bits 8 e a
    by false true z e f g w = at_width is_sum bits 16 f b
    by false false true e f g w = at_width is_sum bits 32 g c
    by false false false e f g w = at_width is_sum bits 64 w d

among : (is_sum : Bool) (bits : ℕ) → is_width bits ≡ true → Among is_sum bits
among true bits w = every true bits (0, refl) (1, refl) (2, refl) (3, refl) w
among false bits w = every false bits (4, refl) (5, refl) (6, refl) (7, refl) w

in_text : (p : PackageTree) (is_sum : Bool) (bits : ℕ) → is_width bits ≡ true → is_used (all_functions p) (saturating_name is_sum bits) ≡ true → There (saturating is_sum bits) (lowered_unit p)
unfolding lowered_unit
in_text p is_sum bits w u =
    let it = saturating is_sum bits in
    there_behind it (io_buffer_item ∷ struct_items p p.struct_order) _
    (there_behind it (used_texts (all_functions p) 0 p.statuses) _ (there_front it (used_helpers (all_functions p) all_saturating) (all_functions p) (kept (all_functions p) all_saturating it u (among is_sum bits w))))

-- ---- calls in expressions

-- What is found under a name is called by it.
record IsCalled (p : Program) (fs : List Function) (name : List ℕ) (it : Function) : Type 0 where
  callee : List ℕ → ExprMeaning
  is : (memory : Memory) (given : List CValue) → expression_call p fs name memory given ≡ expression_meaning p it callee memory given

is_called : (p : Program) (fs : List Function) (name : List ℕ) (it : Function) → function_named fs name ≡ Some it → IsCalled p fs name it
is_called p [] name it e = absurd (cc e)
is_called p (g ∷ fs) name it e = by (bytes_eq g.name name) refl e (is_called p fs name it)
  where
    by : (b : Bool) → bytes_eq g.name name ≡ b → cond b (Some g) (function_named fs name) ≡ Some it → (function_named fs name ≡ Some it → IsCalled p fs name it) → IsCalled p (g ∷ fs) name it
    by true h e more =
        let same : g ≡ it = cc e in
        let P : Function → Type 0 = λ z. IsCalled p (g ∷ fs) name z in
        subst P same (record { callee = expression_call p fs; is = λ memory given. rw h refl })
    by false h e more =
        let r = more e in
        record { callee = r.callee; is = λ memory given. rw h (r.is memory given) }

operates : (p : Program) (is_sum : Bool) (bits : ℕ) → function_named p.functions (saturating_name is_sum bits) ≡ Some (helper is_sum bits)
    → (f : Function) (earlier : List Function) (callee : List ℕ → Meaning) (frame : ℕ) (memory : Memory) → function_named earlier (saturating_name is_sum bits) ≡ Some (helper is_sum bits)
    → Operates is_sum (surroundings (running p f (expression_call p earlier) callee frame) memory) bits
operates p true bits own f earlier callee frame memory h =
    let it = is_called p earlier (saturating_name true bits) (helper true bits) h in
    λ a b ty uy m n w i j k l. helper_law.in_expressions p true bits it.callee (surroundings (running p f (expression_call p earlier) callee frame) memory) w own (λ given. it.is memory given) a b ty uy m n i j k l
operates p false bits own f earlier callee frame memory h =
    let it = is_called p earlier (saturating_name false bits) (helper false bits) h in
    λ a b ty uy m n w i j k l. helper_law.in_expressions p false bits it.callee (surroundings (running p f (expression_call p earlier) callee frame) memory) w own (λ given. it.is memory given) a b ty uy m n i j k l

pub texts_have_helpers : TextsHaveHelpers
texts_have_helpers p is_sum bits names w u =
    let there = in_text p is_sum bits w u in
    let apart = items_name_apart p names in
    let own = function_there (lowered_unit p) is_sum bits there in
    let runs = found_back (λ f. f.name) (functions_of (lowered_unit p)) own.0 (helper is_sum bits) (functions_distinct (lowered_unit p) apart) own.1 in
    record {
      declared = function_found (lowered_unit p) there.0 _ _ (saturating_name is_sum bits) _ _ _ apart there.1;
      runs = runs;
      operates = operates (program_of (lowered_unit p)) is_sum bits runs;
    }
