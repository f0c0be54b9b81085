-- Tokens that open no bracket where no more may be opened.
use Rattle.std.proofs.Common.{◌≡◌, ℕ, suc, ◌+◌, ◌-◌, ◌<◌, ◌≤◌, Bool, true, false, List, [], ◌∷◌, ◌++◌, refl, ap, subst, arith}
use Rattle.std.specs.Prelude.{nat_le}
use Rattle.std.proofs.lemmas.Bool.Decides.{nat_tests}
use Rattle.wf_text.specs.declared.place.Place.{Place}
use Rattle.wf_ast.specs.declared.parsed.Clause.{Clause}
use Rattle.wf_ast.specs.declared.parsed.Clause.TheVariants as clauses
use Rattle.wf_parse_grammar.specs.declared.tokens.Token.{Token}
use Rattle.wf_parse_grammar.specs.Grammar.{token, clause_kind}
use Rattle.wf_parse_grammar.specs.Grammar.{PathForm, BarePath, ThisPath, ArgsPath, OnForm, OnThis, OnPath, MarkForm, Exclaims, Asks, MarkPart, NoMark, AMark}
use Rattle.wf_parse_grammar.specs.Grammar.{path_before, on_before, mark_before, mark_part_before}
use Rattle.wf_parse_grammar.specs.Brackets.{one_if, is_opening, is_closing, opened, closed}
use Rattle.wf_parse_grammar.specs.Refusals.{IsShallow}

abbrev pub behind_opening : Bool → ℕ → ℕ
behind_opening true r = r - 1
behind_opening false r = r

abbrev pub behind_closing : Bool → ℕ → ℕ
behind_closing true r = suc r
behind_closing false r = r

-- Where r brackets may still be opened inside one another.
abbrev pub Fits : (r : ℕ) → List Token → Type 0
Fits r [] = Unit {0}
Fits r (t ∷ ts) = (is_opening t.kind ≡ true → 1 ≤ r) × Fits (behind_opening (is_opening t.kind) (behind_closing (is_closing t.kind) r)) ts

-- After a closing bracket there is the same room as before the opening one.
pub shut : (r : ℕ) (rest : List Token) → 1 ≤ r → Fits (suc (r - 1)) rest → Fits r rest
shut r rest l h =
    let same : suc (r - 1) ≡ r = omega (arith, l) in
    let P : ℕ → Type 0 = λ n. Fits n rest in
    subst P same h

pub one_left : (r : ℕ) → 1 ≤ r → nat_le 1 r ≡ true
one_left r l = grind (arith, nat_tests, l)

pub has_one : (r : ℕ) → nat_le 1 r ≡ true → 1 ≤ r
has_one r h = grind (arith, nat_tests, h)

counted : (opens shuts : Bool) (r : ℕ) → (opens ≡ true → 1 ≤ r) → behind_opening opens (behind_closing shuts r) + one_if opens ≡ r + one_if shuts
counted true true r h = omega arith
counted true false r h = let l = h refl in omega (arith, l)
counted false true r h = omega arith
counted false false r h = refl

-- The same by counts of all brackets up to a token: o were opened before, and c closed.
fits_by : (o c r : ℕ) (ts : List Token)
    → ((front : List Token) (t : Token) (back : List Token) → ts ≡ front ++ t ∷ back → is_opening t.kind ≡ true → o + opened front < 48 + (c + closed front)) → o + r ≡ 48 + c → Fits r ts
fits_by o c r [] h e = tt
fits_by o c r (t ∷ ts) h e =
    let here : (is_opening t.kind ≡ true → 1 ≤ r) = λ k. first k (h [] t ts refl k) in
    let room = counted (is_opening t.kind) (is_closing t.kind) r here in
    (here, fits_by (o + one_if (is_opening t.kind)) (c + one_if (is_closing t.kind)) _ ts (λ front u back f k. later front (h (t ∷ front) u back (ap (λ (z : List Token). t ∷ z) f) k)) (omega (arith, e, room)))
  where
    first : is_opening t.kind ≡ true → o + 0 < 48 + (c + 0) → 1 ≤ r
    first k l = omega (arith, e, l)

    later : (front : List Token) → o + (one_if (is_opening t.kind) + opened front) < 48 + (c + (one_if (is_closing t.kind) + closed front))
        → (o + one_if (is_opening t.kind)) + opened front < 48 + ((c + one_if (is_closing t.kind)) + closed front)
    later front l = omega (arith, l)

pub shallow_fits : (tokens : List Token) → IsShallow tokens → Fits 48 tokens
shallow_fits tokens h = fits_by 0 0 48 tokens (λ front t back e k. at_first front (h front t back e k)) refl
  where
    at_first : (front : List Token) → opened front < 48 + closed front → 0 + opened front < 48 + (0 + closed front)
    at_first front l = omega (arith, l)

-- What opens no bracket.
pub path_passed : (r : ℕ) (path : PathForm) (rest : List Token) → Fits r (path_before path rest) → Fits r rest
path_passed r (BarePath n) rest a = a.1
path_passed r (ThisPath p d n) rest a = a.1.1.1
path_passed r (ArgsPath p d n) rest a = a.1.1.1

pub on_passed : (r : ℕ) (on : OnForm) (rest : List Token) → Fits r (on_before on rest) → Fits r rest
on_passed r (OnThis p) rest a = a.1
on_passed r (OnPath path) rest a = path_passed r path rest a

pub mark_passed : (r : ℕ) (mark : MarkForm) (rest : List Token) → Fits r (mark_before mark rest) → Fits r rest
mark_passed r (Exclaims p) rest a = a.1
mark_passed r (Asks p) rest a = a.1

pub mark_part_passed : (r : ℕ) (mark : MarkPart) (rest : List Token) → Fits r (mark_part_before mark rest) → Fits r rest
mark_part_passed r NoMark rest a = a
mark_part_passed r (AMark m) rest a = mark_passed r m rest a

pub clause_passed : (r : ℕ) (kind : Clause) (at : Place) (rest : List Token) → Fits r (token (clause_kind kind) at ∷ rest) → Fits r rest
clause_passed r clauses.Pre at rest a = a.1
clause_passed r clauses.Inv at rest a = a.1
clause_passed r clauses.Post at rest a = a.1
