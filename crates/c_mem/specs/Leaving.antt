-- What a call that changes something leaves: what the meaning gives; and where the meaning gives nothing the answer is
-- None, and all is as before.
use Rattle.std.specs.Prelude.{◌≡◌, Option, Some, None}

abbrev pub Leaves : {A : Type 0} → (given : Option A) → (old : A) → Option (Unit {0}) → (new : A) → Type 0
Leaves given old (Some done) new = given ≡ Some new
Leaves given old None new = (given ≡ None) × (new ≡ old)
