-- What a script's names stand for, and which method a call means.
use Rattle.std.proofs.Common.{◌≡◌, ℕ, ◌<◌, List, [], ◌∷◌, ◌++◌, map, Bool, true, nat_eq, sym, ◌∙◌, ap, subst, inl, inr, Some, Ok, All, find, slice_get}
use Rattle.std.specs.Option.{ok_or, option_and_then}
use Rattle.std.specs.Str.{bytes_eq}
use Rattle.std.proofs.lemmas.Bool.{cases_Bool, cases_cond, eqb-true, cond-true, cond-false, eq-eqb}
use Rattle.std.proofs.lemmas.Option.{same_Some, option_and_then_some}
use Rattle.std.proofs.lemmas.List.Elements.{All-head, All-tail}
use Rattle.wf_text.specs.Surface.{Surface, PublicStruct, PublicMethod}
use Rattle.wf_text.specs.HostActions.{Receiver, HostArg}
use Rattle.wf_base.specs.HostRun.{HostCall}
use Rattle.wf_base.specs.LawfulActions.{AreDistinct, struct_numbered, method_numbered, method_of, called_method}
use Rattle.wf_script_rules.specs.declared.rules.XRule.TheVariants.{X2, X3}
use Rattle.wf_script_rules.specs.declared.rules.Thing.{Thing}
use Rattle.wf_script_rules.specs.declared.rules.Thing.TheVariants as thing
use Rattle.wf_script_rules.specs.Words.{cut_at}
use Rattle.wf_script_rules.specs.Names.{Named, Declared, thing_named}
use Rattle.wf_script_rules.specs.Values.{known, known_receiver, known_buffer, known_array, receiver_in, buffer_in, array_in, known_method, Target, target_of}
use Rattle.wf_script_drive.specs.Lawful.{HasOwnNumbers}
use Rattle.wf_script_drive.proofs.Readings.{same_ok, no_value, first_ok, ok_or_ok, mapped, found_is, got_front}

-- The thing is one of so many.
abbrev pub StandsIn : (receivers buffers arrays : ℕ) → Thing → Type 0
StandsIn receivers buffers arrays (thing.Receiver k) = k < receivers
StandsIn receivers buffers arrays (thing.Buffer k) = k < buffers
StandsIn receivers buffers arrays (thing.Array k) = k < arrays

abbrev pub AllStand : (receivers buffers arrays : ℕ) → List Named → Type 0
AllStand receivers buffers arrays names = All (λ it. StandsIn receivers buffers arrays it.thing) names

pub known_stands : (r b a : ℕ) (names : List Named) (word : List ℕ) (it : Thing) → AllStand r b a names → known names word ≡ Ok it → StandsIn r b a it
unfolding known
known_stands r b a names word it all e = mapped (λ (n : Named). n.thing) (find (λ n. bytes_eq n.name word) names) it (ok_or_ok (thing_named word names) X2 it e) (λ named found is. subst (λ t. StandsIn r b a t) is (found_is (λ (n : Named). StandsIn r b a n.thing) (λ n. bytes_eq n.name word) names named all found))

in_receiver : (r b a : ℕ) (it : Thing) (k : ℕ) → StandsIn r b a it → receiver_in it ≡ Ok k → k < r
in_receiver r b a (thing.Receiver j) k h e = subst (λ n. n < r) (same_ok j k e) h
in_receiver r b a (thing.Buffer j) k h e = no_value X3 k e
in_receiver r b a (thing.Array j) k h e = no_value X3 k e

in_buffer : (r b a : ℕ) (it : Thing) (k : ℕ) → StandsIn r b a it → buffer_in it ≡ Ok k → k < b
in_buffer r b a (thing.Buffer j) k h e = subst (λ n. n < b) (same_ok j k e) h
in_buffer r b a (thing.Receiver j) k h e = no_value X3 k e
in_buffer r b a (thing.Array j) k h e = no_value X3 k e

in_array : (r b a : ℕ) (it : Thing) (k : ℕ) → StandsIn r b a it → array_in it ≡ Ok k → k < a
in_array r b a (thing.Array j) k h e = subst (λ n. n < a) (same_ok j k e) h
in_array r b a (thing.Receiver j) k h e = no_value X3 k e
in_array r b a (thing.Buffer j) k h e = no_value X3 k e

pub receiver_stands : (r b a : ℕ) (names : List Named) (word : List ℕ) (k : ℕ) → AllStand r b a names → known_receiver names word ≡ Ok k → k < r
receiver_stands r b a names word k all e = first_ok (known names word) receiver_in k e (λ it is of. in_receiver r b a it k (known_stands r b a names word it all is) of)

pub buffer_stands : (r b a : ℕ) (names : List Named) (word : List ℕ) (k : ℕ) → AllStand r b a names → known_buffer names word ≡ Ok k → k < b
buffer_stands r b a names word k all e = first_ok (known names word) buffer_in k e (λ it is of. in_buffer r b a it k (known_stands r b a names word it all is) of)

pub array_stands : (r b a : ℕ) (names : List Named) (word : List ℕ) (k : ℕ) → AllStand r b a names → known_array names word ≡ Ok k → k < a
array_stands r b a names word k all e = first_ok (known names word) array_in k e (λ it is of. in_array r b a it k (known_stands r b a names word it all is) of)

-- a found method's number isn't one that none has
other_number : (n : ℕ) (test : PublicMethod → Bool) (ms : List PublicMethod) (m : PublicMethod) → All (λ (other : ℕ). n ≡ other → ⊥) (map (λ (it : PublicMethod). it.number) ms) → find test ms ≡ Some m → n ≡ m.number → ⊥
other_number n test [] m apart e same = absurd (cc (e))
other_number n test (x ∷ xs) m apart e same = elim (cases_cond (test x) (Some x) (find test xs) (Some m) (sym e)) [
  | inl q ↦ All-head (λ (other : ℕ). n ≡ other → ⊥) x.number (map (λ (it : PublicMethod). it.number) xs) apart (same ∙ ap (λ (it : PublicMethod). it.number) (same_Some m x q))
  | inr q ↦ other_number n test xs m (All-tail (λ (other : ℕ). n ≡ other → ⊥) x.number (map (λ (it : PublicMethod). it.number) xs) apart) (sym q) same
]

-- a method that is found somehow is found by its number
own_number : (test : PublicMethod → Bool) (ms : List PublicMethod) (m : PublicMethod) → AreDistinct (map (λ (it : PublicMethod). it.number) ms) → find test ms ≡ Some m → find (λ (it : PublicMethod). nat_eq it.number m.number) ms ≡ Some m
own_number test [] m apart e = absurd (cc (e))
own_number test (x ∷ xs) m apart e = elim (cases_cond (test x) (Some x) (find test xs) (Some m) (sym e)) [
  | inl q ↦ (
      let same : m ≡ x = same_Some m x q in
      let hits : nat_eq x.number m.number ≡ true = eq-eqb x.number m.number (ap (λ (it : PublicMethod). it.number) (sym same)) in
      cond-true (nat_eq x.number m.number) (Some x) (find (λ (it : PublicMethod). nat_eq it.number m.number) xs) hits ∙ sym q
      )
  | inr q ↦ elim (cases_Bool (nat_eq x.number m.number)) [
    | inl hit ↦ absurd (other_number x.number test xs m apart.0 (sym q) (eqb-true x.number m.number hit))
    | inr miss ↦ cond-false (nat_eq x.number m.number) (Some x) (find (λ (it : PublicMethod). nat_eq it.number m.number) xs) miss ∙ own_number test xs m apart.1 (sym q)
  ]
]

-- A known method is the one that its number means.
pub method_known : (surface : Surface) (receiver : Receiver) (word : List ℕ) (m : PublicMethod) → HasOwnNumbers surface → known_method surface receiver word ≡ Ok m → method_of surface m.number receiver ≡ Some m
unfolding known_method
method_known surface receiver word m own e =
    first_ok (ok_or (struct_numbered surface receiver.struct_number) X2) (λ it. ok_or (find (λ method. bytes_eq method.name word) it.methods) X2) m e (λ it found is.
    let here : struct_numbered surface receiver.struct_number ≡ Some it = ok_or_ok (struct_numbered surface receiver.struct_number) X2 it found in
    let named : find (λ method. bytes_eq method.name word) it.methods ≡ Some m = ok_or_ok (find (λ method. bytes_eq method.name word) it.methods) X2 m is in
    let apart = found_is (λ (s : PublicStruct). AreDistinct (map (λ (method : PublicMethod). method.number) s.methods)) (λ s. nat_eq s.number receiver.struct_number) surface.structs it own here in
    ap (λ o. option_and_then (method_numbered m.number) o) here ∙ own_number (λ method. bytes_eq method.name word) it.methods m apart named)

-- What a call is of is what its numbers mean.
pub target_called : (surface : Surface) (declared : Declared) (word : List ℕ) (target : Target) (args : List HostArg) → HasOwnNumbers surface → target_of surface declared word ≡ Ok target → called_method surface declared.receivers (record { receiver = target.receiver; method = target.method.number; args = args }) ≡ Some target.method
unfolding target_of
target_called surface declared word target args own e =
    first_ok (ok_or (cut_at 46 word) X3) _ target e (λ parts cut e1.
    first_ok (known_receiver declared.names parts.0) _ target e1 (λ k known e2.
    first_ok (ok_or (slice_get declared.receivers k) X2) _ target e2 (λ receiver got e3.
    first_ok (known_method surface receiver parts.1) (λ method. Ok (record { receiver = k; method = method })) target e3 (λ method is e4.
    let same : ◌≡◌ {A = Target} (record { receiver = k; method = method }) target = same_ok _ target e4 in
    let here : slice_get declared.receivers k ≡ Some receiver = ok_or_ok (slice_get declared.receivers k) X2 receiver got in
    subst (λ (t : Target). called_method surface declared.receivers (record { receiver = t.receiver; method = t.method.number; args = args }) ≡ Some t.method) same (ap (λ o. option_and_then (method_of surface method.number) o) here ∙ method_known surface receiver parts.1 method own is)))))

-- A receiver that is declared later changes no call.
pub called_later : (surface : Surface) (receivers more : List Receiver) (called : HostCall) (m : PublicMethod) → called_method surface receivers called ≡ Some m → called_method surface (receivers ++ more) called ≡ Some m
called_later surface receivers more called m e = option_and_then_some (method_of surface called.method) (slice_get receivers called.receiver) m e (λ receiver found is. ap (λ o. option_and_then (method_of surface called.method) o) (got_front receivers more called.receiver receiver found) ∙ is)
