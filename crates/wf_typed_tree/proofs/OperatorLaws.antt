-- The law of the operators on numbers of one width: their tree is a constant or a chain of their width.
use Rattle.std.proofs.Common.{◌≡◌, ℕ, zero, suc, ◌+◌, ◌-◌, ◌*◌, ◌/◌, ◌^◌, ◌<◌, ◌%◌, min, Bool, true, false, not, ◌||◌, List, [], ◌∷◌, Option, Some, None, refl, sym, ◌∙◌, subst, arith, nat_lt, nat_eq, nat_le}
use Rattle.std.specs.Prelude.{if◌then◌else◌}
use Rattle.std.specs.Bool.{⊤}
use Rattle.std.proofs.lemmas.Bool.Decides.{nat_tests}
use Rattle.std.proofs.lemmas.Nat.{pow_pos}
use Rattle.std.proofs.Math.Nat.{mod-lt}
use Rattle.wf_text.specs.declared.place.Place.{Place}
use Rattle.wf_base.specs.declared.widths.Width.{Width}
use Rattle.wf_base.specs.BaseTable.{bits_of}
use Rattle.wf_ast.specs.declared.types.Ty.TheVariants as types
use Rattle.wf_ast.specs.TypedTree.{Arith, plus, minus, times, divided, remainder, shift_left, shift_right, bits_and, bits_or, bits_xor, mod_plus, mod_minus, mod_times, mod_shift_left, sat_plus, sat_minus, NumTree, link, ValueTree}
use Rattle.wf_ast.specs.TypedTrees.{arithmetic, num_in, num_chain, chain_of}
use Rattle.wf_ast.specs.Value.{applied, fitted, only_if}
use Rattle.wf_ast.specs.Same.{same_arith, arith_number}
use Rattle.wf_ast.specs.WellTyped.{Context, is_width, fits, is_shift, continues, is_constant, varies, is_whole_number, well_part, width_of}
use Rattle.wf_types_rules.specs.declared.meanings.Meaning.{Meaning}
use Rattle.wf_types_rules.specs.declared.meanings.Meaning.TheVariants as meanings
use Rattle.wf_types_rules.specs.declared.meanings.Operand.{Operand}
use Rattle.wf_types_rules.specs.Meanings as meant
use Rattle.wf_types_rules.specs.Meanings.{all_of, constant_number}
use Rattle.wf_types_rules.specs.Operands.{first_not, first_of, not_of_one_width, not_shifted, common_width, fits_width, bits_in, width_given, joined_numbers, is_joined, value_of_two, value_of_chain, constant_value, constants_in, constant_of, number_in, computed, meaning_of_operator}
use Rattle.wf_typed_tree.specs.ElaboratedExprs.{type_meant, number_or}
use Rattle.wf_typed_tree.specs.MeaningTrees.{HasMeaning}
use Rattle.wf_typed_tree.proofs.NumberLemmas.{and-true, or-left, or-right, same-self, then-parts, where-parts, width-is, varies-unfixed}
use Rattle.wf_typed_tree.proofs.OperandLaws.{Matched, Taken, taken-parts, first-holds, IsOperand, Operands, operands-of, all-fit, one-width-parts}

-- One operator between two numbers.
pub link-well : (c : Context) (at sign : Place) (op : Arith) (bits : ℕ) (joined : Bool) (a b : NumTree)
    → is_width bits ≡ true → fits bits a ≡ true → (is_shift op || fits bits b) ≡ true → (not joined || continues op bits a) ≡ true → (joined || is_whole_number a) ≡ true
    → well_part c a ≡ true → is_whole_number b ≡ true → well_part c b ≡ true → well_part c (link at sign op bits joined a b) ≡ true
link-well c at sign op bits joined a b w f g k l well whole right =
    and-true (is_width bits) _ w (and-true (fits bits a) _ f (and-true (is_shift op || fits bits b) _ g (and-true (not joined || continues op bits a) _ k
    (and-true (joined || is_whole_number a) _ l (and-true (well_part c a) _ well (and-true (is_whole_number b) (well_part c b) whole right))))))

-- A chain of operands of one width keeps the rules.
pub operand-tree : (c : Context) (bits : ℕ) (t : ValueTree) → IsOperand c bits t → (fits bits (num_in t) ≡ true) × (is_whole_number (num_in t) ≡ true) × (well_part c (num_in t) ≡ true)
operand-tree c bits t h =
    let P : ValueTree → Type 0 = λ u. (fits bits (num_in u) ≡ true) × (is_whole_number (num_in u) ≡ true) × (well_part c (num_in u) ≡ true) in
    subst P (sym h.is) (h.fits, h.whole, h.well)

chain-well : (c : Context) (at : Place) (op : Arith) (bits : ℕ) (joined : Bool) (a : NumTree) (ts : List ValueTree) (signs : List Place)
    → is_width bits ≡ true → fits bits a ≡ true → (not joined || continues op bits a) ≡ true → (joined || is_whole_number a) ≡ true → well_part c a ≡ true → Operands c bits ts
    → well_part c (num_chain at op bits joined a ts signs) ≡ true
chain-well c at op bits joined a [] signs w f k l well h = well
chain-well c at op bits joined a (t ∷ ts) [] w f k l well h =
    let b = operand-tree c bits t h.0 in
    chain-well c at op bits true (link at at op bits joined a (num_in t)) ts [] w (same-self bits) (and-true (same_arith op op) (nat_eq bits bits) (same-self (arith_number op)) (same-self bits)) refl
    (link-well c at at op bits joined a (num_in t) w f (or-right (is_shift op) (fits bits (num_in t)) b.0) k l well b.1 b.2) h.1
chain-well c at op bits joined a (t ∷ ts) (sign ∷ signs) w f k l well h =
    let b = operand-tree c bits t h.0 in
    chain-well c at op bits true (link at sign op bits joined a (num_in t)) ts signs w (same-self bits) (and-true (same_arith op op) (nat_eq bits bits) (same-self (arith_number op)) (same-self bits)) refl
    (link-well c at sign op bits joined a (num_in t) w f (or-right (is_shift op) (fits bits (num_in t)) b.0) k l well b.1 b.2) h.1

-- It has the width, and varies where an operand does.
chain-width : (at : Place) (op : Arith) (bits : ℕ) (joined : Bool) (a : NumTree) (ts : List ValueTree) (signs : List Place) → width_of a ≡ Some bits
    → width_of (num_chain at op bits joined a ts signs) ≡ Some bits
chain-width at op bits joined a [] signs h = h
chain-width at op bits joined a (t ∷ ts) [] h = chain-width at op bits true (link at at op bits joined a (num_in t)) ts [] refl
chain-width at op bits joined a (t ∷ ts) (sign ∷ signs) h = chain-width at op bits true (link at sign op bits joined a (num_in t)) ts signs refl

abbrev pub any_vary : List ValueTree → Bool
any_vary [] = false
any_vary (t ∷ ts) = not (is_constant (num_in t)) || any_vary ts

or-moved : (p q r : Bool) → (p || (q || r)) ≡ true → ((p || q) || r) ≡ true
or-moved true q r h = refl
or-moved false q r h = h

or-none : (p : Bool) → (p || false) ≡ true → p ≡ true
or-none true h = refl
or-none false h = absurd (cc h)

chain-varies : (at : Place) (op : Arith) (bits : ℕ) (a : NumTree) (ts : List ValueTree) (signs : List Place) → (varies a || any_vary ts) ≡ true
    → varies (num_chain at op bits true a ts signs) ≡ true
chain-varies at op bits a [] signs h = or-none (varies a) h
chain-varies at op bits a (t ∷ ts) [] h = chain-varies at op bits (link at at op bits true a (num_in t)) ts [] (or-moved (varies a) (not (is_constant (num_in t))) (any_vary ts) h)
chain-varies at op bits a (t ∷ ts) (sign ∷ signs) h = chain-varies at op bits (link at sign op bits true a (num_in t)) ts signs (or-moved (varies a) (not (is_constant (num_in t))) (any_vary ts) h)

first-varies : (at : Place) (op : Arith) (bits : ℕ) (a : NumTree) (t : ValueTree) (ts : List ValueTree) (signs : List Place) → (not (is_constant a) || any_vary (t ∷ ts)) ≡ true
    → varies (num_chain at op bits false a (t ∷ ts) signs) ≡ true
first-varies at op bits a t ts [] h = chain-varies at op bits (link at at op bits false a (num_in t)) ts [] (or-moved (not (is_constant a)) (not (is_constant (num_in t))) (any_vary ts) h)
first-varies at op bits a t ts (sign ∷ signs) h = chain-varies at op bits (link at sign op bits false a (num_in t)) ts signs (or-moved (not (is_constant a)) (not (is_constant (num_in t))) (any_vary ts) h)

first-width : (at : Place) (op : Arith) (bits : ℕ) (a : NumTree) (t : ValueTree) (ts : List ValueTree) (signs : List Place) → width_of (num_chain at op bits false a (t ∷ ts) signs) ≡ Some bits
first-width at op bits a t ts [] = chain-width at op bits true (link at at op bits false a (num_in t)) ts [] refl
first-width at op bits a t ts (sign ∷ signs) = chain-width at op bits true (link at sign op bits false a (num_in t)) ts signs refl

-- Where not all operands are constant, one of them varies.
both-constant : (o : Operand) (os : List Operand) (n : ℕ) (ns : List ℕ) → constant_number o.of ≡ Some n → constants_in os ≡ Some ns → constants_in (o ∷ os) ≡ Some (n ∷ ns)
both-constant o os n ns e f = rw (e, f) refl

unfixed : (c : Context) (m : Meaning) (t : ValueTree) → meant.is_number m ≡ true → constant_number m ≡ None → HasMeaning c m t → not (is_constant (num_in t)) ≡ true
unfixed c (meanings.Constant width n) t h e k = absurd (cc e)
unfixed c (meanings.Typed (types.Num width lo hi)) t h e k =
    let P : ValueTree → Type 0 = λ u. not (is_constant (num_in u)) ≡ true in subst P (sym k.is) (varies-unfixed k.tree k.varies)
unfixed c m t h e k = absurd (cc h)

abbrev pub Numbers : List Operand → Type 0
Numbers [] = ⊤
Numbers (o ∷ os) = (meant.is_number o.of ≡ true) × Numbers os

pub one-varies : (c : Context) (os : List Operand) (ts : List ValueTree) → Numbers os → constants_in os ≡ None → Matched c os ts → any_vary ts ≡ true
one-varies c [] [] n h k = absurd (cc h)
one-varies c (o ∷ os) (t ∷ ts) n h k = by_rest (one-varies c os ts n.1) (constants_in os) (constant_number o.of) refl refl
  where
    by_rest : (constants_in os ≡ None → Matched c os ts → any_vary ts ≡ true) → (ns : Option (List ℕ)) (m : Option ℕ) → constants_in os ≡ ns → constant_number o.of ≡ m
        → any_vary (t ∷ ts) ≡ true
    by_rest rest None m e f = or-right (not (is_constant (num_in t))) (any_vary ts) (rest e k.1)
    by_rest rest (Some ns) None e f = or-left (not (is_constant (num_in t))) (any_vary ts) (unfixed c o.of t n.0 f k.0)
    by_rest rest (Some ns) (Some m) e f = absurd (cc (h, both-constant o os m ns f e))
one-varies c [] (t ∷ ts) n h k = absurd k
one-varies c (o ∷ os) [] n h k = absurd k

pub numbers-in : (width : Option Width) (os : List Operand) → not_of_one_width width os ≡ None → Numbers os
numbers-in width [] h = tt
numbers-in width (o ∷ os) h = let p = one-width-parts width o os h in (p.number, numbers-in (first_of width (meant.width_of o.of)) os p.behind)

-- The value of constants lies in the width in which it is worked out.
fitted-below : (bits n k : ℕ) → fitted bits n ≡ Some k → nat_lt k (2 ^ bits) ≡ true
fitted-below bits n k h =
    let p = where-parts (nat_lt n (2 ^ bits)) n k h in
    let P : ℕ → Type 0 = λ i. nat_lt i (2 ^ bits) ≡ true in
    subst P p.1 p.0

rest-below : (bits n k : ℕ) → n % 2 ^ bits ≡ k → nat_lt k (2 ^ bits) ≡ true
rest-below bits n k h =
    let P : ℕ → Type 0 = λ i. nat_lt i (2 ^ bits) ≡ true in
    let low : n % 2 ^ bits < 2 ^ bits = mod-lt n (pow_pos bits) in
    subst P h (grind (arith, nat_tests, low))

only-below : (test : Bool) (bits : ℕ) (o : Option ℕ) (k : ℕ) → only_if test o ≡ Some k → o ≡ Some k
only-below true bits o k h = h
only-below false bits o k h = absurd (cc h)

applied-below : (op : Arith) (bits m n k : ℕ) → nat_lt m (2 ^ bits) ≡ true → applied op bits m n ≡ Some k → nat_lt k (2 ^ bits) ≡ true
applied-below plus bits m n k low h = fitted-below bits (m + n) k h
applied-below minus bits m n k low h = fitted-below bits (m - n) k (only-below (nat_le n m) bits (fitted bits (m - n)) k h)
applied-below times bits m n k low h = fitted-below bits (m * n) k h
applied-below divided bits m zero k low h = absurd (cc h)
applied-below divided bits m (suc n) k low h = fitted-below bits (m / suc n) k h
applied-below remainder bits m zero k low h = absurd (cc h)
applied-below remainder bits m (suc n) k low h = fitted-below bits (m % suc n) k h
applied-below shift_left bits m n k low h = fitted-below bits (m * 2 ^ n) k (only-below (nat_lt n bits) bits (fitted bits (m * 2 ^ n)) k h)
applied-below shift_right bits m n k low h = fitted-below bits (m / 2 ^ n) k (only-below (nat_lt n bits) bits (fitted bits (m / 2 ^ n)) k h)
applied-below bits_and bits m n k low h = fitted-below bits _ k h
applied-below bits_or bits m n k low h = fitted-below bits _ k h
applied-below bits_xor bits m n k low h = fitted-below bits _ k h
applied-below mod_plus bits m n k low h = rest-below bits (m + n) k (cc h)
applied-below mod_minus bits m n k low h = rest-below bits (m + (2 ^ bits - n)) k (cc h)
applied-below mod_times bits m n k low h = rest-below bits (m * n) k (cc h)
applied-below mod_shift_left bits m n k low h = rest-below bits (m * 2 ^ n) k (let e = only-below (nat_lt n bits) bits (Some ((m * 2 ^ n) % 2 ^ bits)) k h in cc e)
applied-below sat_plus bits m n k low h =
    let e : min (m + n) (2 ^ bits - 1) ≡ k = cc h in
    let positive = pow_pos bits in
    grind (arith, nat_tests, e, positive)
applied-below sat_minus bits m n k low h = let e : m - n ≡ k = cc h in grind (arith, nat_tests, e, low)

abbrev pub FirstBelow : (bits : ℕ) → List ℕ → Type 0
FirstBelow bits [] = ⊤
FirstBelow bits (n ∷ ns) = nat_lt n (2 ^ bits) ≡ true

two-below : (op : Arith) (bits : ℕ) (ns : List ℕ) (k : ℕ) → FirstBelow bits ns → value_of_two op bits ns ≡ Some k → nat_lt k (2 ^ bits) ≡ true
two-below op bits (m ∷ n ∷ []) k low h = applied-below op bits m n k low h
two-below op bits [] k low h = absurd (cc h)
two-below op bits (m ∷ []) k low h = absurd (cc h)
two-below op bits (m ∷ n ∷ l ∷ ls) k low h = absurd (cc h)

many-below : (op : Arith) (bits : ℕ) (ns : List ℕ) (k : ℕ) → value_of_chain op bits ns ≡ Some k → nat_lt k (2 ^ bits) ≡ true
many-below op bits [] k h = absurd (cc h)
many-below op bits (n ∷ ns) k h = let p = then-parts (fitted bits) (joined_numbers op n ns) k h in fitted-below bits p.of k p.gives

constant-below : (op : Arith) (bits : ℕ) (ns : List ℕ) (k : ℕ) → FirstBelow bits ns → constant_value op bits ns ≡ Some k → nat_lt k (2 ^ bits) ≡ true
constant-below op bits ns k low h = by_test (is_joined op) h
  where
    by_test : (b : Bool) → (if b then value_of_chain op bits ns else value_of_two op bits ns) ≡ Some k → nat_lt k (2 ^ bits) ≡ true
    by_test true e = many-below op bits ns k e
    by_test false e = two-below op bits ns k low e

-- What operators on numbers give: a constant, or a number of their width.
pub constant-means : (c : Context) (at : Place) (width : Option Width) (op : Arith) (ns : List ℕ) (m : Meaning) (t : ValueTree) → FirstBelow (bits_in width) ns
    → constant_of width (constant_value op (bits_in width) ns) ≡ Some m → HasMeaning c m (number_or at (constant_number m) t)
constant-means c at width op ns m t low h = by_value (constant_value op (bits_in width) ns) refl h
  where
    by_value : (v : Option ℕ) → constant_value op (bits_in width) ns ≡ v → constant_of width v ≡ Some m → HasMeaning c m (number_or at (constant_number m) t)
    by_value None e k = absurd (cc k)
    by_value (Some n) e k =
        let is : meanings.Constant width n ≡ m = cc k in
        let P : Meaning → Type 0 = λ i. HasMeaning c i (number_or at (constant_number i) t) in
        subst P is (record { at = at; is = refl; fits = constant-below op (bits_in width) ns n low e })

pub record NumberIn (width : Option Width) (m : Meaning) : Type 0 where
  pub of : Width
  pub is : width ≡ Some of
  pub gives : meanings.Typed (all_of of) ≡ m

pub number-in : (width : Option Width) (m : Meaning) → number_in width ≡ Some m → NumberIn width m
number-in None m h = absurd (cc h)
number-in (Some w) m h = record { of = w; is = refl; gives = cc h }

-- The first of constants that are all there.
pub record Front (o : Operand) (ns : List ℕ) : Type 0 where
  pub first : ℕ
  pub rest : List ℕ
  pub is : first ∷ rest ≡ ns
  pub value : constant_number o.of ≡ Some first

pub front-of : (o : Operand) (os : List Operand) (ns : List ℕ) → constants_in (o ∷ os) ≡ Some ns → Front o ns
front-of o os ns h = by_parts (constant_number o.of) (constants_in os) refl refl
  where
    by_parts : (m : Option ℕ) (ms : Option (List ℕ)) → constant_number o.of ≡ m → constants_in os ≡ ms → Front o ns
    by_parts (Some m) (Some ms) e f =
        let all : constants_in (o ∷ os) ≡ Some (m ∷ ms) = both-constant o os m ms e f in
        record { first = m; rest = ms; is = let same : Some (m ∷ ms) ≡ Some ns = sym all ∙ h in cc same; value = e }
    by_parts None (Some ms) e f = let none : constants_in (o ∷ os) ≡ None = rw e refl in absurd (cc (h, none))
    by_parts None None e f = let none : constants_in (o ∷ os) ≡ None = rw e refl in absurd (cc (h, none))
    by_parts (Some m) None e f = let none : constants_in (o ∷ os) ≡ None = rw (e, f) refl in absurd (cc (h, none))

-- It lies in its own width, and in that of the operator.
pub constant-low : (c : Context) (m : Meaning) (t : ValueTree) (n : ℕ) → constant_number m ≡ Some n → HasMeaning c m t → nat_lt n (2 ^ bits_in (meant.width_of m)) ≡ true
constant-low c (meanings.Constant width k) t n e h =
    let same : k ≡ n = cc e in let P : ℕ → Type 0 = λ i. nat_lt i (2 ^ bits_in width) ≡ true in subst P same h.fits
constant-low c (meanings.Typed ty) t n e h = absurd (cc e)

constant-fits : (m : Meaning) (w : Width) (n : ℕ) → constant_number m ≡ Some n → meant.width_of m ≡ None → fits_width (Some w) m ≡ true → nat_lt n (2 ^ bits_of w) ≡ true
constant-fits (meanings.Constant None k) w n e f h = let same : k ≡ n = cc e in let P : ℕ → Type 0 = λ i. nat_lt i (2 ^ bits_of w) ≡ true in subst P same h
constant-fits (meanings.Constant (Some v) k) w n e f h = absurd (cc f)
constant-fits (meanings.Typed ty) w n e f h = absurd (cc e)

first-low : (c : Context) (o : Operand) (os : List Operand) (t : ValueTree) (n : ℕ) → constant_number o.of ≡ Some n → HasMeaning c o.of t
    → first_not (fits_width (common_width (o ∷ os))) (o ∷ os) ≡ None → nat_lt n (2 ^ bits_in (common_width (o ∷ os))) ≡ true
first-low c o os t n e k fitting = by_width (meant.width_of o.of) (common_width os) refl refl
  where
    by_width : (v u : Option Width) → meant.width_of o.of ≡ v → common_width os ≡ u → nat_lt n (2 ^ bits_in (common_width (o ∷ os))) ≡ true
    by_width (Some v) u f g =
        let low : nat_lt n (2 ^ bits_in (meant.width_of o.of)) ≡ true = constant-low c o.of t n e k in
        let P : Option Width → Type 0 = λ w. nat_lt n (2 ^ bits_in w) ≡ true in
        let same : meant.width_of o.of ≡ common_width (o ∷ os) = rw f refl in
        subst P same low
    by_width None None f g =
        let low : nat_lt n (2 ^ bits_in (meant.width_of o.of)) ≡ true = constant-low c o.of t n e k in
        let P : Option Width → Type 0 = λ w. nat_lt n (2 ^ bits_in w) ≡ true in
        let same : meant.width_of o.of ≡ common_width (o ∷ os) = rw (f, g) refl in
        subst P same low
    by_width None (Some w) f g =
        let common : common_width (o ∷ os) ≡ Some w = rw (f, g) refl in
        let P : Option Width → Type 0 = λ u. first_not (fits_width u) (o ∷ os) ≡ None in
        let low = constant-fits o.of w n e f (first-holds (fits_width (Some w)) o os (subst P common fitting)).0 in
        let Q : Option Width → Type 0 = λ u. nat_lt n (2 ^ bits_in u) ≡ true in
        subst Q (sym common) low

-- An operator on numbers of one width.
pub arithmetic-means : (c : Context) (at : Place) (signs : List Place) (op : Arith) (o q : Operand) (os : List Operand) (t u : ValueTree) (ts : List ValueTree) (m : Meaning)
    → is_shift op ≡ false → meaning_of_operator (arithmetic op) (o ∷ q ∷ os) ≡ Some m → Matched c (o ∷ q ∷ os) (t ∷ u ∷ ts)
    → HasMeaning c m (number_or at (constant_number m) (chain_of at signs (type_meant (Some m)) (arithmetic op) (t ∷ u ∷ ts)))
arithmetic-means c at signs op o q os t u ts m shift h k = by_numbers (constants_in all) refl gives
  where
    all : List Operand
    all = o ∷ q ∷ os

    parts : Taken (arithmetic op) all m
    parts = taken-parts (arithmetic op) all m h

    one_width : not_of_one_width None all ≡ None
    one_width = let P : Bool → Type 0 = λ b. (if b then not_shifted all else not_of_one_width None all) ≡ None in subst P shift parts.taken

    fitting : first_not (fits_width (common_width all)) all ≡ None
    fitting = let P : Bool → Type 0 = λ b. (if b then None else first_not (fits_width (common_width all)) all) ≡ None in subst P shift parts.fitting

    width : width_given op all ≡ common_width all
    width = rw shift refl

    gives : computed op all (constants_in all) ≡ Some m
    gives = parts.gives

    by_numbers : (ns : Option (List ℕ)) → constants_in all ≡ ns → computed op all ns ≡ Some m
        → HasMeaning c m (number_or at (constant_number m) (chain_of at signs (type_meant (Some m)) (arithmetic op) (t ∷ u ∷ ts)))
    by_numbers (Some ns) e f =
        let front = front-of o (q ∷ os) ns e in
        let low : nat_lt front.first (2 ^ bits_in (common_width all)) ≡ true = first-low c o (q ∷ os) t front.first front.value k.0 fitting in
        let L : List ℕ → Type 0 = λ ms. FirstBelow (bits_in (common_width all)) ms in
        let P : Option Width → Type 0 = λ w. constant_of w (constant_value op (bits_in w) ns) ≡ Some m in
        constant-means c at (common_width all) op ns m (chain_of at signs (type_meant (Some m)) (arithmetic op) (t ∷ u ∷ ts)) (subst L front.is low) (subst P width f)
    by_numbers None e f =
        let P : Option Width → Type 0 = λ w. number_in w ≡ Some m in
        let number = number-in (common_width all) m (subst P width f) in
        let F : Option Width → Type 0 = λ w. first_not (fits_width w) all ≡ None in
        let fit = all-fit number.of all one_width number.is (subst F number.is fitting) in
        let trees = operands-of c number.of all (t ∷ u ∷ ts) fit k in
        let first = operand-tree c (bits_of number.of) t trees.0 in
        let varying = one-varies c all (t ∷ u ∷ ts) (numbers-in None all one_width) e k in
        let Q : Meaning → Type 0 = λ i. HasMeaning c i (number_or at (constant_number i) (chain_of at signs (type_meant (Some i)) (arithmetic op) (t ∷ u ∷ ts))) in
        subst Q number.gives
        (record {
          tree = num_chain at op (bits_of number.of) false (num_in t) (u ∷ ts) signs;
          is = refl;
          width = first-width at op (bits_of number.of) (num_in t) u ts signs;
          varies = first-varies at op (bits_of number.of) (num_in t) u ts signs varying;
          well = chain-well c at op (bits_of number.of) false (num_in t) (u ∷ ts) signs (width-is number.of) first.0 refl first.1 first.2 trees.1;
        })
