-- What a run without limits makes, None where it refuses.
use Rattle.std.proofs.Common.{◌≡◌, ◌-◌, ap, ℕ, suc, Bool, true, false, Option, None, Some, List, [], ◌∷◌, ◌++◌, length, refl, if◌then◌else◌}
use Rattle.wf_text.specs.declared.rules.Rule.TheVariants.{S5}
use Rattle.wf_parse_grammar.specs.declared.tokens.Kind.{Kind}
use Rattle.wf_parse_grammar.specs.declared.tokens.Token.{Token}
use Rattle.wf_parse_grammar.specs.declared.symbols.Want.{Want}
use Rattle.wf_parse_grammar.specs.declared.symbols.Want.TheVariants.{Read, Make}
use Rattle.wf_parse_grammar.specs.Machine.{may_end}
use Rattle.wf_parse_grammar.specs.Building.{Build, Take, Begin, Enter, Pass, Stop, build, Ending, Built, Refused, skipped, step, after, ends, run}
use Rattle.wf_parse_grammar.specs.Values.{Made, perform}

abbrev pub go : Build → (next : List Want → Option Made) → (passed : Option Made) → Option Made
go (Take xs) next passed = next xs
go (Begin xs) next passed = next xs
go (Enter xs) next passed = next xs
go Pass next passed = passed
go (Stop r) next passed = None

abbrev pub if_may : Bool → Option Made → Option Made
if_may true o = o
if_may false o = None

abbrev pub makes : List Want → List Token → Made → Option Made
makes [] [] made = Some made
makes [] (t ∷ ts) made = None
makes (Make a ∷ k) ts made = makes k ts (perform a made)
makes (Read s ∷ k) [] made = if_may (may_end s) (makes k [] (skipped s made))
makes (Read s ∷ k) (t ∷ ts) made = go (build s t.kind t.at) (λ xs. makes (xs ++ k) ts made) (makes k (t ∷ ts) (skipped s made))

-- What is made where the run is built.
abbrev pub built : Ending → Option Made
built (Built made) = Some made
built (Refused r left) = None

pub is_built : (e : Ending) (made : Made) → built e ≡ Some made → e ≡ Built made
is_built (Built made) other h = let same : made ≡ other = cc h in ap Built same
is_built (Refused r left) other h = absurd (cc h)

-- The run makes just this.
makes-after : (w : Build) (room : ℕ) (whole below : List Want) (made : Made) (t : Kind) (left : ℕ) (next : ℕ → List Want → Made → Ending)
    (passed : Ending) (read : List Want → Option Made) (o : Option Made)
    → ((room : ℕ) (xs : List Want) → built (next room (xs ++ below) made) ≡ read xs) → built passed ≡ o
    → built (after false room w whole below made t left next passed) ≡ go w read o
makes-after (Take xs) room whole below made t left next passed read o h e = h room xs
makes-after (Begin xs) room whole below made t left next passed read o h e = h (room - 1) xs
makes-after (Enter xs) room whole below made t left next passed read o h e = h 4096 xs
makes-after Pass room whole below made t left next passed read o h e = e
makes-after (Stop r) room whole below made t left next passed read o h e = refl

makes-step : (k : List Want) (room : ℕ) (made : Made) (t : Token) (ts : List Token) (left : ℕ) (next : ℕ → List Want → Made → Ending)
    → ((room : ℕ) (k : List Want) (made : Made) → built (next room k made) ≡ makes k ts made)
    → built (step false room k made t left next) ≡ makes k (t ∷ ts) made
makes-step [] room made t ts left next h = refl
makes-step (Make a ∷ k) room made t ts left next h = makes-step k room (perform a made) t ts left next h
makes-step (Read s ∷ k) room made t ts left next h =
    makes-after (build s t.kind t.at) room (Read s ∷ k) k made t.kind left next _ (λ xs. makes (xs ++ k) ts made) _
    (λ room_left xs. h room_left (xs ++ k) made) (makes-step k room (skipped s made) t ts left next h)

makes-ends : (k : List Want) (made : Made) → built (ends k made) ≡ makes k [] made
makes-ends [] made = refl
makes-ends (Make a ∷ k) made = makes-ends k (perform a made)
makes-ends (Read s ∷ k) made = same-if (may_end s) _ _ (makes-ends k (skipped s made))
  where
    same-if : (c : Bool) (e : Ending) (o : Option Made) → built e ≡ o → built (if c then e else Refused S5 0) ≡ if_may c o
    same-if true e o h = h
    same-if false e o h = refl

pub makes-run : (ts : List Token) (room : ℕ) (k : List Want) (made : Made) → built (run false room ts k made) ≡ makes k ts made
makes-run [] room k made = makes-ends k made
makes-run (t ∷ ts) room k made = makes-step k room made t ts (suc (length ts)) _ (λ room_left wanted made_then. makes-run ts room_left wanted made_then)
