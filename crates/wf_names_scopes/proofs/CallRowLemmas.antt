-- The rows of the methods are the graph of their calls.
use Rattle.std.proofs.Common.{◌≡◌, ℕ, zero, suc, ◌+◌, ◌<◌, Bool, true, false, ◌||◌, List, [], ◌∷◌, ◌++◌, length, Some, slice_get, nat_eq, refl, sym, ap, ◌∙◌, subst, append_assoc, arith, length-append}
use Rattle.std.specs.List.{list_any}
use Rattle.std.proofs.lemmas.Bool.Decides.{nat_tests}
use Rattle.std.proofs.lemmas.List.Folds.{list_any-append}
use Rattle.graphs.specs.Graphs.{holds, row_in, goes}
use Rattle.graphs.proofs.NumberLemmas.{same_number}
use Rattle.wf_ast.proofs.TreeLemmas.{slice_get-seam}
use Rattle.wf_names_rules.specs.declared.callees.Callee.{Callee}
use Rattle.wf_names_rules.specs.declared.callees.Callee.TheVariants as callees
use Rattle.wf_names_rules.specs.Called.{with_callee, with_call, with_calls}
use Rattle.wf_names_rules.specs.Declarations.{Method, Declared}
use Rattle.wf_names_rules.specs.Uses.{Use, Scope, own_status, base_status, variable, structure, method, method_uses, method_scope}
use Rattle.wf_names_rules.specs.Meanings.{Known, known_at, callee_of}
use Rattle.wf_names_rules.specs.NameRules.{is_callee, calls_it, method_calls, calls}
use Rattle.wf_names_scopes.specs.CallRows.{called_in, AgreeOnCalls, IsRowOf, AreRows, AreRowsInFront}

or_false : (t : Bool) → (t || false) ≡ t
or_false true = refl
or_false false = refl

or_or : (x y z : Bool) → ((x || y) || z) ≡ (x || (y || z))
or_or true y z = refl
or_or false y z = refl

-- A row has what it had, and the callees.
pushed-holds : (row : List ℕ) (m b : ℕ) → holds (row ++ m ∷ []) b ≡ (holds row b || nat_eq b m)
pushed-holds row m b = list_any-append (nat_eq b) row (m ∷ []) ∙ ap (λ t. holds row b || t) (or_false (nat_eq b m))

callee-holds : (row : List ℕ) (callee : Callee) (b : ℕ) → holds (with_callee row callee) b ≡ (holds row b || is_callee b callee)
callee-holds row (callees.Own m) b = pushed-holds row m b
callee-holds row (callees.Hidden m) b = pushed-holds row m b
callee-holds row (callees.Base sig) b = sym (or_false (holds row b))
callee-holds row callees.Foreign b = sym (or_false (holds row b))
callee-holds row callees.Missing b = sym (or_false (holds row b))
callee-holds row callees.Baseless b = sym (or_false (holds row b))

module _ (d : Declared) (scope : Scope) (k : Known) (agree : AgreeOnCalls k (known_at d scope)) (b : ℕ) where
  use-holds : (row : List ℕ) (u : Use) → holds (with_call k row u) b ≡ (holds row b || calls_it d scope b u)
  use-holds row (own_status text) = sym (or_false (holds row b))
  use-holds row (base_status text) = sym (or_false (holds row b))
  use-holds row (variable path) = sym (or_false (holds row b))
  use-holds row (structure name) = sym (or_false (holds row b))
  use-holds row (method c) = callee-holds row (callee_of k c) b ∙ ap (λ callee. holds row b || is_callee b callee) (agree c)

  uses-hold : (us : List Use) (row : List ℕ) → holds (with_calls k row us) b ≡ (holds row b || list_any (calls_it d scope b) us)
  uses-hold [] row = sym (or_false (holds row b))
  uses-hold (u ∷ us) row =
      uses-hold us (with_call k row u) ∙ ap (λ t. t || list_any (calls_it d scope b) us) (use-holds row u)
      ∙ or_or (holds row b) (calls_it d scope b u) (list_any (calls_it d scope b) us)

pub row-is : (d : Declared) (m : Method) (k : Known) → AgreeOnCalls k (known_at d (method_scope d m)) → IsRowOf d m (called_in k (method_uses m))
row-is d m k agree b = uses-hold d (method_scope d m) k agree b (method_uses m) []

-- Rows one by one.
get-front : (rows more : List (List ℕ)) (a : ℕ) → a < length rows → slice_get (rows ++ more) a ≡ slice_get rows a
get-front [] more a h = absurd (omega (arith, h))
get-front (r ∷ rows) more zero h = refl
get-front (r ∷ rows) more (suc a) h = get-front rows more a (omega (arith, h))

get-seam : (rows : List (List ℕ)) (row : List ℕ) → slice_get (rows ++ row ∷ []) (length rows) ≡ Some row
get-seam [] row = refl
get-seam (r ∷ rows) row = get-seam rows row

pub rows-none : (d : Declared) → AreRows d [] 0
rows-none d = record { len = refl; made = λ a b h. absurd (omega (arith, h)) }

pub rows-more : (d : Declared) (rows : List (List ℕ)) (m : Method) (row : List ℕ) (n : ℕ) → AreRows d rows n → slice_get d.methods n ≡ Some m
    → IsRowOf d m row → AreRows d (rows ++ row ∷ []) (n + 1)
rows-more d rows m row n h at is = record { len = omega (arith, length-append rows (row ∷ []), h.len); made = λ a b l. by_place a b (nat_eq a n) refl l }
  where
    old : (a b : ℕ) → a < n → goes (rows ++ row ∷ []) a b ≡ calls d a b
    old a b l = ap (λ r. holds (row_in r) b) (get-front rows (row ∷ []) a (omega (arith, l, h.len))) ∙ h.made a b l

    new : (a b : ℕ) → a ≡ n → goes (rows ++ row ∷ []) a b ≡ calls d a b
    new a b e =
        let spot : a ≡ length rows = e ∙ sym h.len in
        let there : slice_get d.methods a ≡ Some m = ap (λ i. slice_get d.methods i) e ∙ at in
        ap (λ i. holds (row_in (slice_get (rows ++ row ∷ []) i)) b) spot ∙ ap (λ r. holds (row_in r) b) (get-seam rows row) ∙ is b ∙ ap (λ x. method_calls d x b) (sym there)

    by_place : (a b : ℕ) (t : Bool) → nat_eq a n ≡ t → a < n + 1 → goes (rows ++ row ∷ []) a b ≡ calls d a b
    by_place a b true e l = new a b (same_number a n e)
    by_place a b false e l = old a b (below a e l)
      where
        below : (a : ℕ) → nat_eq a n ≡ false → a < n + 1 → a < n
        below a e l = grind (arith, nat_tests, e, l)

-- The same by the methods that are left.
pub front-none : (d : Declared) → AreRowsInFront d [] d.methods
front-none d = record { front = []; whole = refl; made = rows-none d }

pub front-more : (d : Declared) (rows : List (List ℕ)) (m : Method) (row : List ℕ) (left : List Method) → AreRowsInFront d rows (m ∷ left)
    → IsRowOf d m row → AreRowsInFront d (rows ++ row ∷ []) left
front-more d rows m row left h is =
    let at : slice_get d.methods (length h.front) ≡ Some m = ap (λ ms. slice_get ms (length h.front)) h.whole ∙ slice_get-seam h.front m left in
    let made : AreRows d (rows ++ row ∷ []) (length h.front + 1) = rows-more d rows m row (length h.front) h.made at is in
    let long : length h.front + 1 ≡ length (h.front ++ m ∷ []) = omega (arith, length-append h.front (m ∷ [])) in
    let P : ℕ → Type 0 = λ n. AreRows d (rows ++ row ∷ []) n in
    record { front = h.front ++ m ∷ []; whole = h.whole ∙ sym (append_assoc h.front (m ∷ []) left); made = subst P long made }

pub front-all : (d : Declared) (rows : List (List ℕ)) → AreRowsInFront d rows [] → AreRows d rows (length d.methods)
front-all d rows h =
    let long : length h.front ≡ length d.methods = omega (arith, length-append h.front [], ap length h.whole) in
    let P : ℕ → Type 0 = λ n. AreRows d rows n in subst P long h.made
