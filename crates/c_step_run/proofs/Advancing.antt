-- A function goes on with fewer turns, or further on in its text.
use Rattle.std.proofs.Common.{◌≡◌, ℕ, zero, suc, ◌+◌, ◌*◌, ◌-◌, ◌<◌, ◌≤◌, ◌⊎◌, inl, inr, Bool, true, false, List, Option, Some, None, refl, sym, ap, arith}
use Rattle.std.specs.Prelude.{if◌then◌else◌, nat_lt}
use Rattle.std.proofs.lemmas.Bool.{ltb-true}
use Rattle.std.proofs.Math.Nat.{mul-le-mul_right}
use Rattle.turns.specs.Run.{Outcome, More}
use Rattle.c_text.specs.declared.kinds.Linkage.{Linkage}
use Rattle.c_text.specs.declared.kinds.Linkage.TheVariants.{External, Static, StaticInline}
use Rattle.c_meaning.specs.declared.values.CValue.{CValue}
use Rattle.c_meaning.specs.declared.values.CValue.TheVariants.{Numeric as numeric, Address as address, NullPointer as null_pointer}
use Rattle.c_meaning.specs.CValues.{holds}
use Rattle.c_meaning.specs.CStep.{Returned}
use Rattle.c_meaning.specs.CCall.{entered}
use Rattle.c_step_text.specs.declared.text.Arm.{Arm}
use Rattle.c_step_text.specs.Flat.{arm_of}
use Rattle.c_step_text.specs.Layout.{number_or}
use Rattle.c_step_run.specs.declared.moved.Moved.TheVariants as moved
use Rattle.c_step_run.specs.declared.moved.Ended.{Ended}
use Rattle.c_step_run.specs.declared.moved.Ended.TheVariants as ended
use Rattle.c_step_run.specs.Coding.{is_static}
use Rattle.c_step_run.specs.Leaps.{entering, turning, leaping, moving, going_back, testing, switching}
use Rattle.c_step_run.specs.Meaning.{Advances, LeavesAtMost}

turning_falls : (size pc to left now : ℕ) → now ≤ left → Advances size pc left (turning to now)
turning_falls size pc to left zero h = tt
turning_falls size pc to left (suc now) h = inl (omega (arith, h))

leap_if : (size pc to left now : ℕ) (b : Bool) → nat_lt pc to ≡ b → pc < size → now ≤ left → Advances size pc left (if b then moved.Goes to now else turning to now)
leap_if size pc to left now true e w h = inr (h, ltb-true pc to e, w)
leap_if size pc to left now false e w h = turning_falls size pc to left now h

pub leap_falls : (size pc to left now : ℕ) → pc < size → now ≤ left → Advances size pc left (leaping pc to now)
leap_falls size pc to left now w h = leap_if size pc to left now (nat_lt pc to) refl w h

pub move_falls : (size pc to left : ℕ) (b : Bool) → pc < size → Advances size pc left (moving b pc to left)
move_falls size pc to left true w = leap_falls size pc to left left w (omega arith)
move_falls size pc to left false w = tt

pub back_falls : (size pc to left : ℕ) (o : Ended) → pc < size → LeavesAtMost left o → Advances size pc left (going_back o pc to)
back_falls size pc to left (ended.Got value now) w h = leap_falls size pc to left now w h
back_falls size pc to left ended.More w h = tt
back_falls size pc to left ended.Lost w h = tt

test_if : (size pc met unmet left : ℕ) (b : Bool) → pc < size → Advances size pc left (if b then leaping pc met left else leaping pc unmet left)
test_if size pc met unmet left true w = leap_falls size pc met left left w (omega arith)
test_if size pc met unmet left false w = leap_falls size pc unmet left left w (omega arith)

pub test_falls : (size pc met unmet left : ℕ) (v : Option CValue) → pc < size → Advances size pc left (testing v pc met unmet left)
test_falls size pc met unmet left None w = tt
test_falls size pc met unmet left (Some v) w = test_if size pc met unmet left (holds v) w

pub switch_falls : (size pc other left : ℕ) (v : Option CValue) (arms : List Arm) → pc < size → Advances size pc left (switching v arms pc other left)
switch_falls size pc other left None arms w = tt
switch_falls size pc other left (Some (numeric n)) arms w = leap_falls size pc (number_or (arm_of n arms) other) left left w (omega arith)
switch_falls size pc other left (Some (address p)) arms w = tt
switch_falls size pc other left (Some null_pointer) arms w = tt

-- The measure of a function's run.
pub measure_falls : (size pc to left now : ℕ) → (now < left) ⊎ ((now ≤ left) × (pc < to) × (pc < size)) → now * (size + 1) + (size - to) < left * (size + 1) + (size - pc)
measure_falls size pc to left now (inl h) =
    let a : (now + 1) * (size + 1) ≤ left * (size + 1) = mul-le-mul_right (size + 1) (omega (arith, h)) in
    let b : (now + 1) * (size + 1) ≡ now * (size + 1) + (size + 1) = grind arith in
    omega (arith, a, b)
measure_falls size pc to left now (inr h) =
    let a : now * (size + 1) ≤ left * (size + 1) = mul-le-mul_right (size + 1) h.0 in
    omega (arith, a, h.1, h.2)

pub no_more_turns : (size pc to left now most : ℕ) → (now < left) ⊎ ((now ≤ left) × (pc < to) × (pc < size)) → left ≤ most → now ≤ most
no_more_turns size pc to left now most (inl h) l = omega (arith, h, l)
no_more_turns size pc to left now most (inr h) l = omega (arith, h.0, l)

-- The entry of a function.
pub no_entry : (linkage : Linkage) (turn : Bool) (left : ℕ) (go : ℕ → Outcome Returned) → turn ≡ is_static linkage → None ≡ entering turn left → entered linkage left go ≡ More
no_entry Static true zero go e h = refl
no_entry Static true (suc left) go e h = absurd (cc (h))
no_entry Static false left go e h = absurd (cc (h))
no_entry External false left go e h = absurd (cc (h))
no_entry External true left go e h = absurd (cc (e))
no_entry StaticInline false left go e h = absurd (cc (h))
no_entry StaticInline true left go e h = absurd (cc (e))

pub an_entry : (linkage : Linkage) (turn : Bool) (left now : ℕ) (go : ℕ → Outcome Returned) → turn ≡ is_static linkage → Some now ≡ entering turn left → entered linkage left go ≡ go now
an_entry Static true zero now go e h = absurd (cc (h))
an_entry Static true (suc left) now go e h = let s : now ≡ left = cc (h) in ap go (sym s)
an_entry Static false left now go e h = absurd (cc (e))
an_entry External false left now go e h = let s : now ≡ left = cc (h) in ap go (sym s)
an_entry External true left now go e h = absurd (cc (e))
an_entry StaticInline false left now go e h = let s : now ≡ left = cc (h) in ap go (sym s)
an_entry StaticInline true left now go e h = absurd (cc (e))
