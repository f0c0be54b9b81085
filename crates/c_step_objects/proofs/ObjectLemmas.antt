-- Objects of structs, one after the other.
use Rattle.std.proofs.Common.{◌≡◌, ℕ, ◌+◌, ◌≤◌, List, [], ◌∷◌, ◌++◌, length, sym, ap, ◌∙◌, subst, arith, append_assoc}
use Rattle.std.specs.Prelude.{reverse}
use Rattle.std.proofs.lemmas.List.{length-append, reverse-append}
use Rattle.c_meaning.specs.CMemory.{Object, Memory}
use Rattle.c_meaning.specs.CTypes.{StructDecl}
use Rattle.c_step_objects.specs.Shapes.{objects_of, objects_of_all, inside_of, ShapeView, fields_at, size_at, all_shapes, placed, zero_object}
use Rattle.c_step_objects.proofs.ListLemmas.{none_left, all_there}
use Rattle.c_step_objects.proofs.ShapeLemmas.{expands, size_is}

-- An object alone in a memory that is made zero.
last_is : (m : Memory) (x y : Object) → x ∷ [] ≡ m ++ y ∷ [] → y ≡ x
last_is [] x y e = cc (e)
last_is (z ∷ m) x y e = absurd (let n : length (x ∷ []) ≡ length (z ∷ (m ++ y ∷ [])) = ap length e in omega (arith, n, length-append m (y ∷ [])))

-- What is left is put down object by object.
all_append : (structs : List StructDecl) (ks ls : List ℕ) (at : ℕ) → objects_of_all structs (ks ++ ls) at ≡ objects_of_all structs ks at ++ objects_of_all structs ls (at + length (objects_of_all structs ks at))
all_append structs [] ls at = ap (objects_of_all structs ls) (let e : at ≡ at + 0 = omega arith in e)
all_append structs (k ∷ ks) ls at =
    ap (λ (xs : List Object). objects_of structs k at ++ xs) (all_append structs ks ls (at + length (objects_of structs k at)))
    ∙ (sym (append_assoc (objects_of structs k at) (objects_of_all structs ks (at + length (objects_of structs k at))) (objects_of_all structs ls (at + length (objects_of structs k at) + length (objects_of_all structs ks (at + length (objects_of structs k at))))))
    ∙ ap (λ (n : ℕ). (objects_of structs k at ++ objects_of_all structs ks (at + length (objects_of structs k at))) ++ objects_of_all structs ls n) (omega (arith, length-append (objects_of structs k at) (objects_of_all structs ks (at + length (objects_of structs k at))))))

next_is : (structs : List StructDecl) (k : ℕ) (ks : List ℕ) (n : ℕ) →
    objects_of_all structs (k ∷ ks) n ≡ zero_object (placed (all_shapes structs) (fields_at (all_shapes structs) k) (n + 1)) ∷ objects_of_all structs (inside_of (fields_at (all_shapes structs) k) ++ ks) (n + 1)
next_is structs k ks n =
    let at : n + length (objects_of structs k n) ≡ n + 1 + length (objects_of_all structs (inside_of (fields_at (all_shapes structs) k)) (n + 1)) = omega (arith, ap length (expands structs k n)) in
    ap (λ (m : ℕ). objects_of structs k n ++ objects_of_all structs ks m) at
    ∙ (ap (λ (xs : List Object). xs ++ objects_of_all structs ks (n + 1 + length (objects_of_all structs (inside_of (fields_at (all_shapes structs) k)) (n + 1)))) (expands structs k n)
    ∙ ap (λ (xs : List Object). zero_object (placed (all_shapes structs) (fields_at (all_shapes structs) k) (n + 1)) ∷ xs) (sym (all_append structs (inside_of (fields_at (all_shapes structs) k)) ks (n + 1))))

pub objects_on : (structs : List StructDecl) (shapes : List ShapeView) (k : ℕ) (all new total : List Object) (old left now : List ℕ) → shapes ≡ all_shapes structs → old ≡ left ++ k ∷ []
    → reverse now ≡ inside_of (fields_at shapes k) ++ reverse left → new ≡ all ++ zero_object (placed shapes (fields_at shapes k) (length all + 1)) ∷ []
    → all ++ objects_of_all structs (reverse old) (length all) ≡ total → new ++ objects_of_all structs (reverse now) (length new) ≡ total
objects_on structs shapes k all new total old left now is popped put added so_far =
    let top : reverse old ≡ k ∷ reverse left = ap reverse popped ∙ reverse-append left (k ∷ []) in
    let added_here : new ≡ all ++ zero_object (placed (all_shapes structs) (fields_at (all_shapes structs) k) (length all + 1)) ∷ [] = subst (λ (ss : List ShapeView). new ≡ all ++ zero_object (placed ss (fields_at ss k) (length all + 1)) ∷ []) is added in
    let put_here : reverse now ≡ inside_of (fields_at (all_shapes structs) k) ++ reverse left = subst (λ (ss : List ShapeView). reverse now ≡ inside_of (fields_at ss k) ++ reverse left) is put in
    let long : length new ≡ length all + 1 = ap length added_here ∙ length-append all (zero_object (placed (all_shapes structs) (fields_at (all_shapes structs) k) (length all + 1)) ∷ []) in
    let moved : (all ++ zero_object (placed (all_shapes structs) (fields_at (all_shapes structs) k) (length all + 1)) ∷ []) ++ objects_of_all structs (inside_of (fields_at (all_shapes structs) k) ++ reverse left) (length all + 1) ≡ total =
    append_assoc all (zero_object (placed (all_shapes structs) (fields_at (all_shapes structs) k) (length all + 1)) ∷ []) (objects_of_all structs (inside_of (fields_at (all_shapes structs) k) ++ reverse left) (length all + 1))
    ∙ (ap (λ (xs : List Object). all ++ xs) (sym (next_is structs k (reverse left) (length all))) ∙ (ap (λ (ks : List ℕ). all ++ objects_of_all structs ks (length all)) (sym top) ∙ so_far)) in
    rw (long, put_here, added_here) moved

pub objects_done : (structs : List StructDecl) (shapes : List ShapeView) (k : ℕ) (first all : List Object) (left : List ℕ) (count : ℕ) → shapes ≡ all_shapes structs → length all ≡ length first + count → size_at shapes k ≤ count
    → all ++ objects_of_all structs (reverse left) (length all) ≡ first ++ objects_of structs k (length first) → all ≡ first ++ objects_of structs k (length first)
objects_done structs shapes k first all left count is grown enough so_far =
    let size : size_at shapes k ≡ length (objects_of structs k (length first)) = ap (λ (ss : List ShapeView). size_at ss k) is ∙ size_is structs k (length first) in
    let total : length (all ++ objects_of_all structs (reverse left) (length all)) ≡ length first + length (objects_of structs k (length first)) = ap length so_far ∙ length-append first (objects_of structs k (length first)) in
    let parts : length (all ++ objects_of_all structs (reverse left) (length all)) ≡ length all + length (objects_of_all structs (reverse left) (length all)) = length-append all (objects_of_all structs (reverse left) (length all)) in
    let none : length (objects_of_all structs (reverse left) (length all)) ≡ 0 = omega (arith, size, total, parts, grown, enough) in
    all_there all (objects_of_all structs (reverse left) (length all)) (first ++ objects_of structs k (length first)) so_far (none_left (objects_of_all structs (reverse left) (length all)) none)

pub put_on_top : (left new : List ℕ) (k : ℕ) (ins ks : List ℕ) → new ≡ left ++ k ∷ [] → reverse left ≡ ins ++ ks → reverse new ≡ k ∷ (ins ++ ks)
put_on_top left new k ins ks put so_far = ap reverse put ∙ (reverse-append left (k ∷ []) ∙ ap (λ (xs : List ℕ). k ∷ xs) so_far)
