-- Arguments are taken from the stack one by one, the last one first.
use Rattle.std.proofs.Common.{◌⊎◌, inl, inr, IfSome, ◌≡◌, ℕ, zero, suc, ◌+◌, ◌<◌, ◌≤◌, List, [], ◌∷◌, ◌++◌, length, Option, Some, None, refl, sym, ap, ◌∙◌, subst, arith, take, drop}
use Rattle.std.specs.Prelude.{◌-◌, option_map, option_and_then, slice_get, slice_set}
use Rattle.std.proofs.lemmas.List.{append_assoc, reverse-append}
use Rattle.c_meaning.specs.declared.cells.Cell.{Cell}
use Rattle.c_meaning.specs.declared.cells.CellType.{CellType}
use Rattle.c_meaning.specs.declared.values.CValue.{CValue}
use Rattle.c_meaning.specs.CMemory.{Field, cells, part, Object, cell_of}
use Rattle.c_mem.specs.FieldParts.{stored_in, stored_at_field, Fits, FitsField, FitsObject}
use Rattle.c_mem.proofs.Fitting.{converted_fits}
use Rattle.c_mem.specs.Leaving.{Leaves}
use Rattle.c_meaning.specs.Typed.{of_cells, field_shape, object_shape}
use Rattle.c_step_frames.specs.Frames.{one_cell, passed_cells, unset_cells, IsOneCell, StartsWith, on_top, PassesOne}

none_last : (o : Option Cell) (t : CellType) → option_and_then (λ cell. option_map (λ (fields : List Field). one_cell t cell ∷ fields) None) o ≡ None
none_last None t = refl
none_last (Some cell) t = refl

none_end : (o : Option Cell) (t : CellType) → option_and_then (λ cell. option_map (λ (fields : List Field). fields ++ one_cell t cell ∷ []) None) o ≡ None
none_end None t = refl
none_end (Some cell) t = refl

through : (first last : Option Cell) (t u : CellType) (fs : Option (List Field))
    → option_and_then (λ cell. option_map (λ (fields : List Field). one_cell t cell ∷ fields) (option_and_then (λ it. option_map (λ (fields : List Field). fields ++ one_cell u it ∷ []) fs) last)) first
    ≡ option_and_then (λ it. option_map (λ (fields : List Field). fields ++ one_cell u it ∷ []) (option_and_then (λ cell. option_map (λ (fields : List Field). one_cell t cell ∷ fields) fs) first)) last
through None None t u fs = refl
through None (Some c) t u fs = refl
through (Some d) None t u fs = refl
through (Some d) (Some c) t u None = refl
through (Some d) (Some c) t u (Some fields) = refl

one_passed : (u : CellType) (v : CValue) (o : Option Cell) → option_and_then (λ cell. option_map (λ (fields : List Field). one_cell u cell ∷ fields) (Some [])) o ≡ option_and_then (λ it. option_map (λ (fields : List Field). fields ++ one_cell u it ∷ []) (Some [])) o
one_passed u v None = refl
one_passed u v (Some cell) = refl

pub passed_last : (ts : List CellType) (u : CellType) (vs : List CValue) (v : CValue)
    → passed_cells (ts ++ u ∷ []) (vs ++ v ∷ []) ≡ option_and_then (λ it. option_map (λ (fields : List Field). fields ++ one_cell u it ∷ []) (passed_cells ts vs)) (cell_of u v)
passed_last [] u [] v = one_passed u v (cell_of u v)
passed_last [] u (w ∷ []) v = none_last (cell_of u w) u ∙ sym (none_end (cell_of u v) u)
passed_last [] u (w ∷ x ∷ vs) v = none_last (cell_of u w) u ∙ sym (none_end (cell_of u v) u)
passed_last (t ∷ []) u [] v = none_last (cell_of t v) t ∙ sym (none_end (cell_of u v) u)
passed_last (t ∷ r ∷ ts) u [] v = none_last (cell_of t v) t ∙ sym (none_end (cell_of u v) u)
passed_last (t ∷ ts) u (w ∷ vs) v =
    ap (λ (o : Option (List Field)). option_and_then (λ cell. option_map (λ (fields : List Field). one_cell t cell ∷ fields) o) (cell_of t w)) (passed_last ts u vs v)
    ∙ through (cell_of t w) (cell_of u v) t u (passed_cells ts vs)

-- There is a field for each type.
pub shaped_length : (ts : List CellType) (fs : Object) → StartsWith ts fs → length ts ≤ length fs
shaped_length [] fs h = omega arith
shaped_length (t ∷ ts) [] h = absurd h
shaped_length (t ∷ ts) (f ∷ fs) h = omega (arith, shaped_length ts fs h.1)

-- A cell stored in a field of one cell.
stored_one : (t : CellType) (f : Field) (cell : Cell) → IsOneCell t f → stored_in f 0 cell ≡ Some (one_cell t cell)
stored_one t (cells type []) cell h = absurd h
stored_one t (cells type (c ∷ [])) cell h = ap (λ (u : CellType). Some (one_cell u cell)) h
stored_one t (cells type (c ∷ d ∷ others)) cell h = absurd h
stored_one t (part object) cell h = absurd h

pub stored_shaped : (ts : List CellType) (fs : Object) (i : ℕ) (t : CellType) (cell : Cell) → StartsWith ts fs → slice_get ts i ≡ Some t
    → stored_at_field fs i 0 cell ≡ Some (slice_set fs i (one_cell t cell))
stored_shaped [] fs i t cell h e = absurd (cc (e))
stored_shaped (u ∷ ts) [] i t cell h e = absurd h
stored_shaped (u ∷ ts) (f ∷ fs) zero t cell h e =
    let s : u ≡ t = cc (e) in
    ap (λ (o : Option Field). option_map (λ now. slice_set (f ∷ fs) 0 now) o) (stored_one u f cell h.0) ∙ ap (λ (x : CellType). Some (one_cell x cell ∷ fs)) s
stored_shaped (u ∷ ts) (f ∷ fs) (suc i) t cell h e = later f fs i t cell (stored_shaped ts fs i t cell h.1 e)
  where
    mapped : (g : Field) (o : Option Field) (gs : Object) (j : ℕ) (now : Object) → option_map (λ it. slice_set gs j it) o ≡ Some now → option_map (λ it. slice_set (g ∷ gs) (suc j) it) o ≡ Some (g ∷ now)
    mapped g None gs j now q = absurd (cc (q))
    mapped g (Some it) gs j now q = let s : slice_set gs j it ≡ now = cc (q) in ap (λ (x : Object). Some (g ∷ x)) s

    found : (g : Field) (o : Option Field) (gs : Object) (j : ℕ) (cell : Cell) (now : Object) → option_and_then (λ it. option_map (λ x. slice_set gs j x) (stored_in it 0 cell)) o ≡ Some now
        → option_and_then (λ it. option_map (λ x. slice_set (g ∷ gs) (suc j) x) (stored_in it 0 cell)) o ≡ Some (g ∷ now)
    found g None gs j cell now q = absurd (cc (q))
    found g (Some it) gs j cell now q = mapped g (stored_in it 0 cell) gs j now q

    later : (g : Field) (gs : Object) (j : ℕ) (t : CellType) (cell : Cell) → stored_at_field gs j 0 cell ≡ Some (slice_set gs j (one_cell t cell)) → stored_at_field (g ∷ gs) (suc j) 0 cell ≡ Some (g ∷ slice_set gs j (one_cell t cell))
    later g gs j t cell q = found g (slice_get gs j) gs j cell (slice_set gs j (one_cell t cell)) q

pub set_shaped : (ts : List CellType) (fs : Object) (i : ℕ) (t : CellType) (cell : Cell) → StartsWith ts fs → slice_get ts i ≡ Some t → StartsWith ts (slice_set fs i (one_cell t cell))
set_shaped [] fs i t cell h e = absurd (cc (e))
set_shaped (u ∷ ts) [] i t cell h e = absurd h
set_shaped (u ∷ ts) (f ∷ fs) zero t cell h e = let s : u ≡ t = cc (e) in (sym s, h.1)
set_shaped (u ∷ ts) (f ∷ fs) (suc i) t cell h e = (h.0, set_shaped ts fs i t cell h.1 e)

-- What is still to be taken, where the fields from `left` on are there.
abbrev pub Gives : (ts : List CellType) → (given : List CValue) → (left : ℕ) → (stack : List CValue) → (done : List Field) → Type 0
Gives ts given left stack done = passed_cells ts given ≡ option_map (λ (front : List Field). front ++ done) (passed_cells (take left ts) (on_top left stack))

-- A list up to a place and the item there.
take_one : {A : Type 0} (xs : List A) (i : ℕ) (x : A) → slice_get xs i ≡ Some x → take (i + 1) xs ≡ take i xs ++ x ∷ []
take_one [] i x e = absurd (cc (e))
take_one (y ∷ ys) zero x e = let s : y ≡ x = cc (e) in ap (λ z. z ∷ []) s
take_one (y ∷ ys) (suc i) x e = let n : suc i + 1 ≡ suc (i + 1) = omega arith in rw n (ap (λ (zs : List _). y ∷ zs) (take_one ys i x e))

top_last : (i : ℕ) (v : CValue) (stack : List CValue) → on_top (i + 1) (v ∷ stack) ≡ on_top i stack ++ v ∷ []
top_last i v stack = let n : i + 1 ≡ suc i = omega arith in rw n (reverse-append (v ∷ []) (take i stack))

joined : (t : CellType) (cell : Cell) (done : List Field) (o : Option (List Field)) → option_map (λ (front : List Field). front ++ done) (option_map (λ (fields : List Field). fields ++ one_cell t cell ∷ []) o) ≡ option_map (λ (front : List Field). front ++ (one_cell t cell ∷ done)) o
joined t cell done None = refl
joined t cell done (Some fields) = ap Some (append_assoc fields (one_cell t cell ∷ []) done)

last_here : (ts : List CellType) (i : ℕ) (t : CellType) (v : CValue) (stack : List CValue) → slice_get ts i ≡ Some t
    → passed_cells (take (i + 1) ts) (on_top (i + 1) (v ∷ stack)) ≡ option_and_then (λ it. option_map (λ (fields : List Field). fields ++ one_cell t it ∷ []) (passed_cells (take i ts) (on_top i stack))) (cell_of t v)
last_here ts i t v stack e =
    ap (λ (us : List CellType). passed_cells us (on_top (i + 1) (v ∷ stack))) (take_one ts i t e)
    ∙ (ap (λ (vs : List CValue). passed_cells (take i ts ++ t ∷ []) vs) (top_last i v stack) ∙ passed_last (take i ts) t (on_top i stack) v)

-- One argument is taken and converted.
pub takes_one : (ts : List CellType) (given : List CValue) (i : ℕ) (t : CellType) (v : CValue) (stack : List CValue) (cell : Cell) (done : List Field)
    → slice_get ts i ≡ Some t → cell_of t v ≡ Some cell → Gives ts given (i + 1) (v ∷ stack) done → Gives ts given i stack (one_cell t cell ∷ done)
takes_one ts given i t v stack cell done e f h =
    h ∙ (ap (λ (o : Option (List Field)). option_map (λ (front : List Field). front ++ done) o)
    (last_here ts i t v stack e ∙ ap (λ (o : Option Cell). option_and_then (λ it. option_map (λ (fields : List Field). fields ++ one_cell t it ∷ []) (passed_cells (take i ts) (on_top i stack))) o) f)
    ∙ joined t cell done (passed_cells (take i ts) (on_top i stack)))

-- One has no value of its type.
pub takes_none : (ts : List CellType) (given : List CValue) (i : ℕ) (t : CellType) (v : CValue) (stack : List CValue) (done : List Field)
    → slice_get ts i ≡ Some t → cell_of t v ≡ None → Gives ts given (i + 1) (v ∷ stack) done → passed_cells ts given ≡ None
takes_none ts given i t v stack done e f h =
    h ∙ ap (λ (o : Option (List Field)). option_map (λ (front : List Field). front ++ done) o)
    (last_here ts i t v stack e ∙ ap (λ (o : Option Cell). option_and_then (λ it. option_map (λ (fields : List Field). fields ++ one_cell t it ∷ []) (passed_cells (take i ts) (on_top i stack))) o) f)

-- There are too few.
nothing_passed : (ts : List CellType) (i : ℕ) (t : CellType) → slice_get ts i ≡ Some t → passed_cells (take (i + 1) ts) [] ≡ None
nothing_passed [] i t e = absurd (cc (e))
nothing_passed (u ∷ ts) i t e = let n : i + 1 ≡ suc i = omega arith in rw n refl

top_of_none : (i : ℕ) → on_top i [] ≡ []
top_of_none zero = refl
top_of_none (suc i) = refl

pub too_few : (ts : List CellType) (given : List CValue) (i : ℕ) (t : CellType) (done : List Field) → slice_get ts i ≡ Some t → Gives ts given (i + 1) [] done → passed_cells ts given ≡ None
too_few ts given i t done e h =
    h ∙ ap (λ (o : Option (List Field)). option_map (λ (front : List Field). front ++ done) o)
    (ap (λ (vs : List CValue). passed_cells (take (i + 1) ts) vs) (top_of_none (i + 1)) ∙ nothing_passed ts i t e)

-- The fields that are there so far.
pub done_grows : (fs : Object) (i n : ℕ) (x : Field) → i < length fs → i < n → take (n - i) (drop i (slice_set fs i x)) ≡ x ∷ take (n - (i + 1)) (drop (i + 1) fs)
done_grows [] i n x h k = absurd (omega (arith, h))
done_grows (f ∷ fs) zero n x h k = let e : n - 0 ≡ suc (n - 1) = omega (arith, k) in rw e refl
done_grows (f ∷ fs) (suc i) n x h k =
    let a : n - suc i ≡ (n - 1) - i = omega arith in
    let b : n - (suc i + 1) ≡ (n - 1) - (i + 1) = omega arith in
    let d : suc i + 1 ≡ suc (i + 1) = omega arith in
    rw (a, b, d) (done_grows fs i (n - 1) x (omega (arith, h)) (omega (arith, k)))

pub rest_stays : (fs : Object) (i n : ℕ) (x : Field) → i < n → drop n (slice_set fs i x) ≡ drop n fs
rest_stays [] i n x h = refl
rest_stays (f ∷ fs) i zero x h = absurd (omega (arith, h))
rest_stays (f ∷ fs) zero (suc n) x h = refl
rest_stays (f ∷ fs) (suc i) (suc n) x h = rest_stays fs i n x (omega (arith, h))

-- The shape stays.
one_shape : (t : CellType) (f : Field) (cell : Cell) → IsOneCell t f → field_shape (one_cell t cell) ≡ field_shape f
one_shape t (cells type []) cell h = absurd h
one_shape t (cells type (c ∷ [])) cell h = ap (λ (u : CellType). of_cells u 1) (sym h)
one_shape t (cells type (c ∷ d ∷ others)) cell h = absurd h
one_shape t (part object) cell h = absurd h

pub set_same_shape : (ts : List CellType) (fs : Object) (i : ℕ) (t : CellType) (cell : Cell) → StartsWith ts fs → slice_get ts i ≡ Some t → object_shape (slice_set fs i (one_cell t cell)) ≡ object_shape fs
set_same_shape [] fs i t cell h e = absurd (cc (e))
set_same_shape (u ∷ ts) [] i t cell h e = absurd h
set_same_shape (u ∷ ts) (f ∷ fs) zero t cell h e =
    let s : u ≡ t = cc (e) in
    ap (λ x. x ∷ object_shape fs) (one_shape t f cell (subst (λ (x : CellType). IsOneCell x f) s h.0))
set_same_shape (u ∷ ts) (f ∷ fs) (suc i) t cell h e = ap (λ xs. field_shape f ∷ xs) (set_same_shape ts fs i t cell h.1 e)

-- An object of unset cells.
pub unset_starts : (ts us : List CellType) → StartsWith ts (unset_cells (ts ++ us))
unset_starts [] us = tt
unset_starts (t ∷ ts) us = (refl, unset_starts ts us)

-- An argument fits its field.
pub passes_fit : (ts : List CellType) (fs : Object) (i : ℕ) (t : CellType) (v : CValue) (cell : Cell) → StartsWith ts fs → slice_get ts i ≡ Some t → Some cell ≡ cell_of t v → FitsObject fs i cell
passes_fit [] fs i t v cell h e f = absurd (cc (e))
passes_fit (u ∷ ts) [] i t v cell h e f = absurd h
passes_fit (u ∷ ts) (g ∷ fs) zero t v cell h e f = let s : u ≡ t = cc (e) in one_fits g h.0 (subst (λ (x : CellType). Fits x cell) (sym s) (converted_fits t v cell (sym f)))
  where
    one_fits : (g : Field) → IsOneCell u g → Fits u cell → FitsField g cell
    one_fits (cells type []) h k = absurd h
    one_fits (cells type (c ∷ [])) h k = subst (λ (x : CellType). Fits x cell) (sym h) k
    one_fits (cells type (c ∷ d ∷ others)) h k = absurd h
    one_fits (part object) h k = absurd h
passes_fit (u ∷ ts) (g ∷ fs) (suc i) t v cell h e f = passes_fit ts fs i t v cell h.1 e f

-- The last of a list.
pub last_one : {A : Type 0} (xs ys : List A) (x y : A) → xs ++ x ∷ [] ≡ ys ++ y ∷ [] → (xs ≡ ys) × (x ≡ y)
last_one [] [] x y e = let s : x ≡ y = cc (e) in (refl, s)
last_one [] (b ∷ []) x y e = absurd (cc (e))
last_one [] (b ∷ c ∷ ys) x y e = absurd (cc (e))
last_one (a ∷ []) [] x y e = absurd (cc (e))
last_one (a ∷ c ∷ xs) [] x y e = absurd (cc (e))
last_one (a ∷ xs) (b ∷ ys) x y e =
    let s : a ≡ b = cc (e) in
    let t : xs ++ x ∷ [] ≡ ys ++ y ∷ [] = cc (e) in
    let r : (xs ≡ ys) × (x ≡ y) = last_one xs ys x y t in
    (ap (λ z. z ∷ xs) s ∙ ap (λ zs. b ∷ zs) r.0, r.1)

-- What is left to take, once one argument is taken more.
pub gives_more : (ts : List CellType) (given : List CValue) (i left : ℕ) (stack now : List CValue) (fs new : Object) (t : CellType) (v : CValue) (cell : Cell)
    → left ≡ i + 1 → left ≤ length ts → StartsWith ts fs → slice_get ts i ≡ Some t → stack ≡ v ∷ now → cell_of t v ≡ Some cell → new ≡ slice_set fs i (one_cell t cell)
    → Gives ts given left stack (take (length ts - left) (drop left fs)) → Gives ts given i now (take (length ts - i) (drop i new))
gives_more ts given i left stack now fs new t v cell e within shaped get s f n h =
    let h1 : Gives ts given (i + 1) stack (take (length ts - (i + 1)) (drop (i + 1) fs)) = subst (λ (k : ℕ). Gives ts given k stack (take (length ts - k) (drop k fs))) e h in
    let h2 : Gives ts given (i + 1) (v ∷ now) (take (length ts - (i + 1)) (drop (i + 1) fs)) = subst (λ (x : List CValue). Gives ts given (i + 1) x (take (length ts - (i + 1)) (drop (i + 1) fs))) s h1 in
    let r : Gives ts given i now (one_cell t cell ∷ take (length ts - (i + 1)) (drop (i + 1) fs)) = takes_one ts given i t v now cell (take (length ts - (i + 1)) (drop (i + 1) fs)) get f h2 in
    let q : take (length ts - i) (drop i new) ≡ one_cell t cell ∷ take (length ts - (i + 1)) (drop (i + 1) fs) =
    ap (λ (o : Object). take (length ts - i) (drop i o)) n ∙ done_grows fs i (length ts) (one_cell t cell) (omega (arith, shaped_length ts fs shaped, within, e)) (omega (arith, within, e)) in
    subst (λ (d : List Field). Gives ts given i now d) (sym q) r

drop_one_more : {A : Type 0} (xs : List A) (k : ℕ) → drop (k + 1) xs ≡ drop 1 (drop k xs)
drop_one_more [] zero = refl
drop_one_more [] (suc k) = let e : suc k + 1 ≡ suc (k + 1) = omega arith in rw e refl
drop_one_more (x ∷ xs) zero = refl
drop_one_more (x ∷ xs) (suc k) = let e : suc k + 1 ≡ suc (k + 1) = omega arith in rw e (drop_one_more xs k)

pub taken_so_far : (stack0 stack now : List CValue) (v : CValue) (n i left : ℕ) → left ≡ i + 1 → left ≤ n → stack ≡ v ∷ now → stack ≡ drop (n - left) stack0 → now ≡ drop (n - i) stack0
taken_so_far stack0 stack now v n i left e w s h =
    let k : n - i ≡ (n - left) + 1 = omega (arith, e, w) in
    sym (ap (λ (j : ℕ). drop j stack0) k ∙ (drop_one_more stack0 (n - left) ∙ ap (drop 1) (sym h ∙ s)))

past_end : {A : Type 0} (xs : List A) (i : ℕ) → slice_get xs i ≡ None → length xs ≤ i
past_end [] i e = omega arith
past_end (x ∷ xs) zero e = absurd (cc (e))
past_end (x ∷ xs) (suc i) e = omega (arith, past_end xs i e)

-- One argument can't be taken.
pub gives_none : (ts : List CellType) (given : List CValue) (i left : ℕ) (stack now : List CValue) (done : List Field)
    → left ≡ i + 1 → left ≤ length ts → Gives ts given left stack done
    → (stack ≡ []) ⊎ ((t : CellType) × (v : CValue) × (slice_get ts i ≡ Some t) × (stack ≡ v ∷ now) × (cell_of t v ≡ None))
    → passed_cells ts given ≡ None
gives_none ts given i left stack now done e w h (inl s) =
    let h1 : Gives ts given (i + 1) stack done = subst (λ (k : ℕ). Gives ts given k stack done) e h in
    let h2 : Gives ts given (i + 1) [] done = subst (λ (x : List CValue). Gives ts given (i + 1) x done) s h1 in
    by_type (slice_get ts i) refl h2
  where
    by_type : (o : Option CellType) → slice_get ts i ≡ o → Gives ts given (i + 1) [] done → passed_cells ts given ≡ None
    by_type (Some t) g k = too_few ts given i t done g k
    by_type None g k = absurd (omega (arith, e, w, past_end ts i g))
gives_none ts given i left stack now done e w h (inr r) =
    let h1 : Gives ts given (i + 1) stack done = subst (λ (k : ℕ). Gives ts given k stack done) e h in
    let h2 : Gives ts given (i + 1) (r.1 ∷ now) done = subst (λ (x : List CValue). Gives ts given (i + 1) x done) r.3 h1 in
    takes_none ts given i r.0 r.1 now done r.2 r.4 h2

-- The top of a stack, and what a store leaves.
pub top_is : (stack now : List CValue) (v : CValue) → Some v ≡ slice_get stack 0 → now ≡ drop 1 stack → stack ≡ v ∷ now
top_is [] now v e n = absurd (cc (e))
top_is (w ∷ ws) now v e n = let s : v ≡ w = cc (e) in sym (ap (λ x. x ∷ now) s ∙ ap (λ xs. w ∷ xs) n)

pub leaves_this : (given : Option Object) (old new x : Object) (r : Option (Unit {0})) → Leaves given old r new → given ≡ Some x → new ≡ x
leaves_this given old new x None h e = absurd (cc (h.0, e))
leaves_this given old new x (Some done) h e = cc (h, e)

pub passes_one : (ts : List CellType) (fs new : Object) (i : ℕ) (t : CellType) (v : CValue) (cell : Cell) (stack now : List CValue) (r : Option (Unit {0})) → StartsWith ts fs → slice_get ts i ≡ Some t
    → Some v ≡ slice_get stack 0 → now ≡ drop 1 stack → Some cell ≡ cell_of t v → Leaves (stored_at_field fs i 0 cell) fs r new → PassesOne ts i fs stack (Some tt) new now
passes_one ts fs new i t v cell stack now r h get top rest f left =
    (t, v, cell, get, top_is stack now v top rest, sym f, leaves_this (stored_at_field fs i 0 cell) fs new (slice_set fs i (one_cell t cell)) r left (stored_shaped ts fs i t cell h get))

-- The object that is kept.
pub kept_is : (o : Option Object) (x z : Object) → Some x ≡ o → IfSome o (λ y. y ≡ z) → x ≡ z
kept_is None x z e h = absurd (cc (e))
kept_is (Some y) x z e h = let s : x ≡ y = cc (e) in s ∙ h

pub not_empty : {A : Type 0} (xs : List A) (x : A) → xs ++ x ∷ [] ≡ [] → ⊥
not_empty [] x e = absurd (cc (e))
not_empty (y ∷ ys) x e = absurd (cc (e))
