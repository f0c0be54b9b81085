-- What one token leaves as it was, and how little it adds.
use Rattle.std.proofs.Common.{◌≡◌, ◌≤◌, ◌+◌, ◌-◌, ◌*◌, ℕ, Bool, true, false, ◌&&◌, nat_eq, nat_le, if◌then◌else◌, Result, Ok, Err, IfOk, IfErr, OnOk, List, ◌∷◌, ◌++◌, length, refl, sym, ◌∙◌, ap, arith, length-append}
use Rattle.wf_parse_grammar.specs.declared.builds.Build.{Build}
use Rattle.wf_parse_grammar.specs.declared.symbols.Sym.{Sym}
use Rattle.wf_parse_grammar.specs.declared.symbols.Want.{Want}
use Rattle.wf_parse_grammar.specs.declared.symbols.Want.TheVariants.{Read}
use Rattle.wf_parse_grammar.specs.declared.tokens.Token.{Token}
use Rattle.wf_parse_grammar.specs.declared.wants.Lead.{Lead}
use Rattle.wf_parse_grammar.specs.declared.wants.Lead.TheVariants as leads
use Rattle.wf_text.specs.declared.rules.Rule.TheVariants.{L4, L5}
use Rattle.wf_parse_grammar.specs.declared.builds.Build.TheVariants.{Take, Begin, Enter}
use Rattle.wf_parse_grammar.specs.declared.tokens.Kind.{Kind}
use Rattle.wf_parse_grammar.specs.Machine.{opens}
use Rattle.wf_parse_grammar.specs.Building.{Ending, after, unless, open_wants}
use Rattle.wf_parse_grammar.specs.Values.{Made}
use Rattle.wf_parse_grammar.specs.Wanted.{led_by, performed_by}
use Rattle.wf_parse.specs.declared.machine.Machine.{Machine}
use Rattle.wf_parse.specs.declared.machine.StepFault.{StepFault}
use Rattle.wf_parse.specs.declared.machine.StepFault.TheVariants.{Refused, Memory}
use Rattle.wf_ast.specs.ParsedParts.{Parsed}
use Rattle.wf_parse.specs.Machines.{State, size, AnswersBuild, KeepsAt, MakesFirst, Wanted}

-- A list is no longer than with actions before it.
led_longer : (lead : Lead) (xs : List Want) → length xs ≤ length (led_by lead xs)
led_longer leads.Empty xs = omega (arith)
led_longer (leads.One a) xs = omega (arith)
led_longer (leads.Places at) xs = omega (arith)
led_longer (leads.PlacedPath name) xs = omega (arith)
led_longer (leads.ThisPath at) xs = omega (arith)
led_longer (leads.Chain op at) xs = omega (arith)
led_longer (leads.Target op at) xs = omega (arith)
led_longer (leads.ThisTarget op at) xs = omega (arith)

-- Actions stand before a whole list where they stand before its front.
pub led_before : (lead : Lead) (xs ys : List Want) → led_by lead (xs ++ ys) ≡ led_by lead xs ++ ys
led_before leads.Empty xs ys = refl
led_before (leads.One a) xs ys = refl
led_before (leads.Places at) xs ys = refl
led_before (leads.PlacedPath name) xs ys = refl
led_before (leads.ThisPath at) xs ys = refl
led_before (leads.Chain op at) xs ys = refl
led_before (leads.Target op at) xs ys = refl
led_before (leads.ThisTarget op at) xs ys = refl

-- The actions before a list are performed first.
led_made : (lead : Lead) (next : ℕ → List Want → Made → Ending) → MakesFirst next → (room : ℕ) (k : List Want) (made : Made) → next room (led_by lead k) made ≡ next room k (performed_by lead made)
led_made leads.Empty next h room k made = refl
led_made (leads.One a) next h room k made = h room a k made
led_made (leads.Places at) next h room k made = h room _ _ made ∙ h room _ k _
led_made (leads.PlacedPath name) next h room k made = h room _ _ made ∙ h room _ k _
led_made (leads.ThisPath at) next h room k made = h room _ _ made ∙ h room _ k _
led_made (leads.Chain op at) next h room k made = h room _ _ made ∙ h room _ k _
led_made (leads.Target op at) next h room k made = h room _ _ made ∙ h room _ k _
led_made (leads.ThisTarget op at) next h room k made = h room _ _ made ∙ (h room _ _ _ ∙ h room _ k _)

pub wanted_so : (lead : Lead) (xs : List Want) (old new : State) → led_by lead new.wants ≡ xs ++ old.wants → new.made ≡ performed_by lead old.made → Wanted xs old new
wanted_so lead xs old new stack made next h room =
    ap (λ k. next room k old.made) (sym stack) ∙ (led_made lead next h room new.wants old.made ∙ ap (λ m. next room new.wants m) (sym made))

pub wanted_size : (lead : Lead) (xs k left : List Want) (n m : ℕ) → led_by lead left ≡ xs ++ k → m ≤ n + 3 → length xs ≤ 12 → m + 2 * length left ≤ n + 2 * length k + 32
wanted_size lead xs k left n m stack few short =
    let longer = led_longer lead left in
    let whole : length (led_by lead left) ≡ length (xs ++ k) = ap length stack in
    let sum = length-append xs k in
    omega (arith, longer, whole, sum, few, short)

-- No limit is passed.
pub no_first : (a b d : Bool) → a ≡ false → (a && b && d) ≡ false
no_first false b d e = refl
no_first true b d e = absurd (cc e)

pub no_second : (a b d : Bool) → b ≡ false → (a && b && d) ≡ false
no_second false false d e = refl
no_second true false d e = refl
no_second a true d e = absurd (cc e)

pub no_third : (a b d : Bool) → d ≡ false → (a && b && d) ≡ false
no_third false false false e = refl
no_third false true false e = refl
no_third true false false e = refl
no_third true true false e = refl
no_third a b true e = absurd (cc e)

pub neither_first : (a b : Bool) → a ≡ false → (a && b) ≡ false
neither_first false b e = refl
neither_first true b e = absurd (cc e)

pub neither_second : (a b : Bool) → b ≡ false → (a && b) ≡ false
neither_second false false e = refl
neither_second true false e = refl
neither_second a true e = absurd (cc e)

-- What follows then.
pub take_passes : (limited : Bool) (s : Sym) (t : Kind) (xs k : List Want) (room now : ℕ) (made : Made) → (limited && opens t && nat_le 48 (open_wants (Read s ∷ k))) ≡ false → now ≡ room
    → (left : ℕ) (next : ℕ → List Want → Made → Ending) (passed : Ending) → after limited room (Take xs) (Read s ∷ k) k made t left next passed ≡ next now (xs ++ k) made
take_passes limited s t xs k room now made within is left next passed =
    ap (λ b. unless b L4 left (next room (xs ++ k) made)) within ∙ ap (λ n. next n (xs ++ k) made) (sym is)

pub begin_passes : (limited : Bool) (s : Sym) (t : Kind) (xs k : List Want) (room now : ℕ) (made : Made) → (limited && nat_eq room 0) ≡ false → now ≡ room - 1
    → (left : ℕ) (next : ℕ → List Want → Made → Ending) (passed : Ending) → after limited room (Begin xs) (Read s ∷ k) k made t left next passed ≡ next now (xs ++ k) made
begin_passes limited s t xs k room now made within is left next passed =
    ap (λ b. unless b L5 left (next (room - 1) (xs ++ k) made)) within ∙ ap (λ n. next n (xs ++ k) made) (sym is)

pub enter_passes : (limited : Bool) (s : Sym) (t : Kind) (xs k : List Want) (room now : ℕ) (made : Made) → (limited && nat_le 48 (open_wants (Read s ∷ k))) ≡ false → now ≡ 4096
    → (left : ℕ) (next : ℕ → List Want → Made → Ending) (passed : Ending) → after limited room (Enter xs) (Read s ∷ k) k made t left next passed ≡ next now (xs ++ k) made
enter_passes limited s t xs k room now made within is left next passed =
    ap (λ b. unless b L4 left (next 4096 (xs ++ k) made)) within ∙ ap (λ n. next n (xs ++ k) made) (sym is)

-- A token that may be taken is.
pub taken_answers : (r : Result Bool StepFault) (limited : Bool) (s : Sym) (t : Token) (b : Build) (xs : List Want) (old new : State)
    → ((left : ℕ) (next : ℕ → List Want → Made → Ending) (passed : Ending) → after limited old.room b (Read s ∷ old.wants) old.wants old.made t.kind left next passed ≡ next new.room (xs ++ old.wants) old.made)
    → IfOk r (λ taken. taken ≡ true) → IfErr r (λ stop. stop ≡ Memory) → OnOk r (Wanted xs old new) → AnswersBuild limited s t b old new r
taken_answers (Ok true) limited s t b xs old new passes ok err wanted = λ left next passed h. passes left next passed ∙ wanted next h new.room
taken_answers (Ok false) limited s t b xs old new passes ok err wanted = absurd (cc ok)
taken_answers (Err (Refused rule)) limited s t b xs old new passes ok err wanted = absurd (cc err)
taken_answers (Err Memory) limited s t b xs old new passes ok err wanted = tt

pub taken_size : (r : Result Bool StepFault) (old new : Machine) → IfOk r (λ taken. taken ≡ true) → OnOk r (size new ≤ size old + 32) → IfOk r (λ taken. size new ≤ size old + (if taken then 32 else 2))
taken_size (Err x) old new ok h = tt
taken_size (Ok false) old new ok h = absurd (cc ok)
taken_size (Ok true) old new ok h = h

-- Where only memory can be refused, no token breaks a rule.
pub memory_only : (r : Result Bool StepFault) (old new : Parsed) → IfErr r (λ stop. stop ≡ Memory) → IfErr r (λ stop. KeepsAt stop old new)
memory_only (Ok taken) old new h = tt
memory_only (Err (Refused rule)) old new h = absurd (cc h)
memory_only (Err Memory) old new h = tt
