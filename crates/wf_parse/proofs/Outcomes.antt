-- A token is taken or refused, whatever comes after it; and one that stands for bytes that are no token is refused.
use Rattle.std.proofs.Common.{◌≡◌, ◌≤◌, ◌⊎◌, inl, inr, ℕ, zero, suc, Bool, true, false, ◌&&◌, nat_le, nat_eq, ◌-◌, List, [], ◌∷◌, ◌++◌, length, refl, sym, ◌∙◌, arith}
use Rattle.wf_text.specs.declared.place.Place.{Place}
use Rattle.wf_text.specs.declared.rules.Rule.{Rule}
use Rattle.wf_text.specs.declared.rules.Rule.TheVariants.{S5, L3, L4, L5}
use Rattle.wf_parse_grammar.specs.declared.builds.Build.{Build}
use Rattle.wf_parse_grammar.specs.declared.builds.Build.TheVariants.{Take, Begin, Enter, Pass, Stop}
use Rattle.wf_parse_grammar.specs.declared.symbols.Sym.{Sym}
use Rattle.wf_parse_grammar.specs.declared.symbols.Sym.TheVariants as syms
use Rattle.wf_parse_grammar.specs.declared.symbols.Want.{Want}
use Rattle.wf_parse_grammar.specs.declared.symbols.Want.TheVariants.{Read, Make}
use Rattle.wf_parse_grammar.specs.declared.tokens.Kind.{Kind}
use Rattle.wf_parse_grammar.specs.declared.tokens.Kind.TheVariants as kinds
use Rattle.wf_parse_grammar.specs.declared.tokens.Token.{Token}
use Rattle.wf_parse_grammar.specs.Building.{Ending, Built, Refused, unless, after, step, run, build, skipped, open_wants}
use Rattle.wf_parse_grammar.specs.Machine.{opens}
use Rattle.wf_parse_grammar.specs.Values.{Made, perform}
use Rattle.wf_parse.specs.Reading.{reading}

abbrev pub Next : Type 0
Next = ℕ → List Want → Made → Ending

-- What comes of a token, as a function of what is done after it.
abbrev pub Outcome : (ℕ → Next → Ending) → Type 0
Outcome ending = ((room : ℕ) × (wants : List Want) × (made : Made) × ((left : ℕ) (next : Next) → ending left next ≡ next room wants made)) ⊎ ((rule : Rule) × ((left : ℕ) (next : Next) → ending left next ≡ Refused rule left))

unless_outcome : (deep : Bool) (rule : Rule) (room : ℕ) (wants : List Want) (made : Made) → Outcome (λ left next. unless deep rule left (next room wants made))
unless_outcome true rule room wants made = inr (rule, λ left next. refl)
unless_outcome false rule room wants made = inl (room, wants, made, λ left next. refl)

after_outcome : (limited : Bool) (room : ℕ) (b : Build) (whole below : List Want) (made : Made) (t : Kind) (passed : ℕ → Next → Ending) → Outcome passed → Outcome (λ left next. after limited room b whole below made t left next (passed left next))
after_outcome limited room (Take xs) whole below made t passed o = unless_outcome (limited && opens t && nat_le 48 (open_wants whole)) L4 room (xs ++ below) made
after_outcome limited room (Begin xs) whole below made t passed o = unless_outcome (limited && nat_eq room 0) L5 (room - 1) (xs ++ below) made
after_outcome limited room (Enter xs) whole below made t passed o = unless_outcome (limited && nat_le 48 (open_wants whole)) L4 4096 (xs ++ below) made
after_outcome limited room Pass whole below made t passed o = o
after_outcome limited room (Stop rule) whole below made t passed o = inr (rule, λ left next. refl)

pub outcome : (limited : Bool) (room : ℕ) (k : List Want) (made : Made) (t : Token) → Outcome (λ left next. step limited room k made t left next)
outcome limited room [] made t = inr (S5, λ left next. refl)
outcome limited room (Make a ∷ k) made t = outcome limited room k (perform a made) t
outcome limited room (Read s ∷ k) made t =
    after_outcome limited room (build s t.kind t.at) (Read s ∷ k) k made t.kind (λ left next. step limited room k (skipped s made) t left next) (outcome limited room k (skipped s made) t)

-- Where the whole is built, the token is taken.
pub taken_from : (ending : ℕ → Next → Ending) → Outcome ending → (left : ℕ) (next : Next) (built : Made) → ending left next ≡ Built built
    → (room : ℕ) × (wants : List Want) × (made : Made) × ((l : ℕ) (n : Next) → ending l n ≡ n room wants made) × (next room wants made ≡ Built built)
taken_from ending (inl o) left next built e = (o.0, o.1, o.2, o.3, sym (o.3 left next) ∙ e)
taken_from ending (inr o) left next built e = let no_way : Refused o.0 left ≡ Built built = sym (o.1 left next) ∙ e in absurd (cc no_way)

-- A file within the number of tokens is built by the machine with its limits.
pub reading_built : (most room : ℕ) (tokens : List Token) (k : List Want) (made built : Made) → reading most room tokens k made ≡ Built built → (length tokens ≤ most) × (run true room tokens k made ≡ Built built)
reading_built zero room [] k made built e = (omega arith, e)
reading_built (suc most) room [] k made built e = (omega arith, e)
reading_built zero room (t ∷ ts) k made built e =
    let left = suc (length ts) in
    let taken = taken_from (λ l n. step false room k made t l n) (outcome false room k made t) left (λ _ _ _. Refused L3 left) built e in
    absurd (cc taken.4)
reading_built (suc most) room (t ∷ ts) k made built e =
    let left = suc (length ts) in
    let taken = taken_from (λ l n. step true room k made t l n) (outcome true room k made t) left (λ room_left wanted made_then. reading most room_left ts wanted made_then) built e in
    let later = reading_built most taken.0 ts taken.1 taken.2 built taken.4 in
    (omega (arith, later.0), taken.3 left (λ room_left wanted made_then. run true room_left ts wanted made_then) ∙ later.1)

-- Bytes that are no token.
refusing : Build → Bool
refusing (Take xs) = false
refusing (Begin xs) = false
refusing (Enter xs) = false
refusing Pass = true
refusing (Stop rule) = true

bad_build : (s : Sym) (p : Place) → refusing (build s kinds.Bad p) ≡ true
unfolding refusing
bad_build syms.File p = refl
bad_build s p = refl

bad_after : (limited : Bool) (room : ℕ) (b : Build) (whole below : List Want) (made : Made) (left : ℕ) (next : Next) (passed : Ending) → refusing b ≡ true → (rule : Rule) × (passed ≡ Refused rule left)
    → (rule : Rule) × (after limited room b whole below made kinds.Bad left next passed ≡ Refused rule left)
unfolding refusing
bad_after limited room (Take xs) whole below made left next passed e h = absurd (cc e)
bad_after limited room (Begin xs) whole below made left next passed e h = absurd (cc e)
bad_after limited room (Enter xs) whole below made left next passed e h = absurd (cc e)
bad_after limited room Pass whole below made left next passed e h = h
bad_after limited room (Stop rule) whole below made left next passed e h = (rule, refl)

pub bad_step : (limited : Bool) (room : ℕ) (k : List Want) (made : Made) (p : Place) (left : ℕ) (next : Next) → (rule : Rule) × (step limited room k made (record { kind = kinds.Bad; at = p }) left next ≡ Refused rule left)
bad_step limited room [] made p left next = (S5, refl)
bad_step limited room (Make a ∷ k) made p left next = bad_step limited room k (perform a made) p left next
bad_step limited room (Read s ∷ k) made p left next =
    bad_after limited room (build s kinds.Bad p) (Read s ∷ k) k made left next (step limited room k (skipped s made) (record { kind = kinds.Bad; at = p }) left next) (bad_build s p) (bad_step limited room k (skipped s made) p left next)

pub bad_never_built : (most room : ℕ) (front : List Token) (k : List Want) (made built : Made) (p : Place) → reading most room (front ++ record { kind = kinds.Bad; at = p } ∷ []) k made ≡ Built built → ⊥
bad_never_built zero room [] k made built p e =
    let bad = bad_step false room k made p 1 (λ _ _ _. Refused L3 1) in
    let no_way : Refused bad.0 1 ≡ Built built = sym bad.1 ∙ e in absurd (cc no_way)
bad_never_built (suc most) room [] k made built p e =
    let bad = bad_step true room k made p 1 (λ room_left wanted made_then. reading most room_left [] wanted made_then) in
    let no_way : Refused bad.0 1 ≡ Built built = sym bad.1 ∙ e in absurd (cc no_way)
bad_never_built zero room (t ∷ ts) k made built p e =
    let left = suc (length (ts ++ record { kind = kinds.Bad; at = p } ∷ [])) in
    let taken = taken_from (λ l n. step false room k made t l n) (outcome false room k made t) left (λ _ _ _. Refused L3 left) built e in
    absurd (cc taken.4)
bad_never_built (suc most) room (t ∷ ts) k made built p e =
    let rest = ts ++ record { kind = kinds.Bad; at = p } ∷ [] in
    let left = suc (length rest) in
    let taken = taken_from (λ l n. step true room k made t l n) (outcome true room k made t) left (λ room_left wanted made_then. reading most room_left rest wanted made_then) built e in
    bad_never_built most taken.0 ts taken.1 taken.2 built p taken.4
