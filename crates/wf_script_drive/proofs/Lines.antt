-- Each line of a script leaves what was declared sound, and its command may come then.
use Rattle.std.proofs.Common.{◌≡◌, ℕ, ◌+◌, ◌<◌, ◌≤◌, ◌^◌, List, [], ◌∷◌, ◌++◌, length, map, Bool, true, false, nat_eq, refl, sym, ap, subst, arith, inl, inr, Option, Some, None, Result, Ok, Err, cond, All, find, length-append, codes}
use Rattle.std.specs.Prelude.{⊤, nat_le}
use Rattle.std.specs.Option.{ok_or, IsSomeAnd}
use Rattle.std.specs.Str.{bytes_eq}
use Rattle.std.proofs.lemmas.Bool.{cases_Bool, cases_cond, cond-true, cond-false, eqb-false, leb-true}
use Rattle.std.proofs.lemmas.Option.{same_Some}
use Rattle.std.proofs.lemmas.List.Elements.{All-nil, All-push, All-weaker}
use Rattle.wf_text.specs.Surface.{Surface, PublicStruct, PublicMethod, PublicArg, ArgKind, number, flag, reader, writer, slice}
use Rattle.wf_text.specs.HostActions.{HostArg, init, call, put, close, compact, replace, Receiver}
use Rattle.wf_text.specs.HostActions as host
use Rattle.wf_base.specs.BaseOps.{AreBytes}
use Rattle.wf_base.specs.HostRun.{HostCall}
use Rattle.wf_base.specs.LawfulActions.{struct_numbered, called_method, FitsKind, FitKinds, CanCall, AreDeclared, IsByteArray}
use Rattle.wf_bufs.specs.HostViews.{arg_of}
use Rattle.wf_script_rules.specs.declared.rules.XRule.TheVariants.{X1, X2, X3, X4}
use Rattle.wf_script_rules.specs.declared.rules.Verb.{Verb}
use Rattle.wf_script_rules.specs.declared.rules.Verb.TheVariants as verb
use Rattle.wf_script_rules.specs.declared.rules.Thing.{Thing}
use Rattle.wf_script_rules.specs.declared.rules.Thing.TheVariants as thing
use Rattle.wf_script_rules.specs.Words.{◌>>=◌, number_up_to, bytes_spelt, unless_misspelt, verb_of}
use Rattle.wf_script_rules.specs.Names.{Named, Declared}
use Rattle.wf_script_rules.specs.Values.{next_word, at_end, known, known_receiver, known_buffer, known_struct, target_of, args_of}
use Rattle.wf_script_rules.specs.Lines.{Command, declares, acts, shows, sets_turns, new_receiver, receiver_words, receiver_line, new_store, fits_store, buffer_size, buffer_words, buffer_line, array_bytes, array_words, array_line, init_line, named_buffer, put_line, only_buffer, shown, show_line, turns_line, call_line, line_by, line_of}
use Rattle.hex.specs.Hex.{decode_of}
use Rattle.hex.specs.declared.error.FromHexError.{FromHexError}
use Rattle.wf_script_drive.specs.Lawful.{HasOwnNumbers, MayCome}
use Rattle.wf_script_drive.proofs.Readings.{same_ok, no_value, first_ok, cond_ok, demand_ok, ok_or_ok, some_and, some_and_from}
use Rattle.wf_script_drive.proofs.Names.{StandsIn, AllStand, receiver_stands, buffer_stands, target_called, called_later}
use Rattle.wf_script_drive.proofs.Values.{number_bound, args_are}
use Rattle.wf_script_drive.proofs.Digits.{decoded_are_bytes}

-- What holds of all that a script has declared.
pub record IsSound (surface : Surface) (declared : Declared) : Type 0 where
  pub names : AllStand (length declared.receivers) (length declared.sizes) (length declared.arrays) declared.names
  pub receivers : AreDeclared surface declared.receivers
  pub sizes : All (λ (size : ℕ). size < 2 ^ 64) declared.sizes
  pub arrays : All IsByteArray declared.arrays

-- What was declared stands.
pub record Grows (before after : Declared) : Type 0 where
  pub more : List Receiver
  pub receivers : after.receivers ≡ before.receivers ++ more
  pub sizes : length before.sizes ≤ length after.sizes
  pub arrays : length before.arrays ≤ length after.arrays

pub record LineIsSound (surface : Surface) (before : Declared) (read : Declared × Command) : Type 0 where
  pub sound : IsSound surface read.0
  pub grows : Grows before read.0
  pub may : MayCome surface read.0.receivers (length read.0.sizes) (length read.0.arrays) read.1

append_nothing : {A : Type 0} (xs : List A) → xs ++ [] ≡ xs
append_nothing [] = refl
append_nothing (x ∷ xs) = ap (λ ys. x ∷ ys) (append_nothing xs)

stays : (surface : Surface) (declared : Declared) (command : Command) → IsSound surface declared → MayCome surface declared.receivers (length declared.sizes) (length declared.arrays) command → LineIsSound surface declared (declared, command)
stays surface declared command sound may = record {
  sound = sound;
  grows = record { more = []; receivers = sym (append_nothing declared.receivers); sizes = omega arith; arrays = omega arith };
  may = may;
}

stands_later : (r b a s c d : ℕ) (it : Thing) → r ≤ s → b ≤ c → a ≤ d → StandsIn r b a it → StandsIn s c d it
stands_later r b a s c d (thing.Receiver k) p q o h = omega (arith, p, h)
stands_later r b a s c d (thing.Buffer k) p q o h = omega (arith, q, h)
stands_later r b a s c d (thing.Array k) p q o h = omega (arith, o, h)

named_stand : (r b a s c d : ℕ) (names : List Named) (word : List ℕ) (it : Thing) → r ≤ s → b ≤ c → a ≤ d → AllStand r b a names → StandsIn s c d it → AllStand s c d (names ++ (record { name = word; thing = it }) ∷ [])
named_stand r b a s c d names word it p q o all h = All-push (λ (n : Named). StandsIn s c d n.thing) names (record { name = word; thing = it }) (All-weaker (λ (n : Named). StandsIn r b a n.thing) (λ (n : Named). StandsIn s c d n.thing) (λ n stands. stands_later r b a s c d n.thing p q o stands) names all) h

one_more : {A : Type 0} (xs : List A) (x : A) → length (xs ++ x ∷ []) ≡ length xs + 1
one_more xs x = length-append xs (x ∷ [])

-- a struct that is found somehow is found by its number
numbered_is : (test : PublicStruct → Bool) (xs : List PublicStruct) (x : PublicStruct) → find test xs ≡ Some x → IsSomeAnd (find (λ (it : PublicStruct). nat_eq it.number x.number) xs) (λ _. ⊤)
numbered_is test [] x e = absurd (cc (e))
numbered_is test (y ∷ ys) x e = elim (cases_Bool (nat_eq y.number x.number)) [
  | inl hit ↦ some_and_from (cond (nat_eq y.number x.number) (Some y) (find (λ (it : PublicStruct). nat_eq it.number x.number) ys)) (λ _. ⊤) y (cond-true (nat_eq y.number x.number) (Some y) (find (λ (it : PublicStruct). nat_eq it.number x.number) ys) hit) tt
  | inr miss ↦ elim (cases_cond (test y) (Some y) (find test ys) (Some x) (sym e)) [
    | inl q ↦ absurd (eqb-false y.number x.number miss (ap (λ (it : PublicStruct). it.number) (sym (same_Some x y q))))
    | inr q ↦ subst (λ (o : Option PublicStruct). IsSomeAnd o (λ _. ⊤)) (sym (cond-false (nat_eq y.number x.number) (Some y) (find (λ (it : PublicStruct). nat_eq it.number x.number) ys) miss)) (numbered_is test ys x (sym q))
  ]
]

-- `new` and `null`
receiver_read : (null : Bool) (surface : Surface) (declared : Declared) (words : List (List ℕ)) (one : List ℕ × Receiver) → receiver_words null surface declared words ≡ Ok one → IsSomeAnd (struct_numbered surface one.1.struct_number) (λ _. ⊤)
unfolding receiver_words known_struct
receiver_read null surface declared words one e =
    first_ok (new_receiver declared words) _ one e (λ name is1 e1.
    first_ok (next_word name.1) _ one e1 (λ type is2 e2.
    first_ok (ok_or (find (λ it. bytes_eq it.name type.0) surface.structs) X2) _ one e2 (λ it is3 e3.
    first_ok (at_end type.1) (λ over. Ok (name.0, record { struct_number = it.number; null = null })) one e3 (λ over is4 e4.
    subst (λ (o : List ℕ × Receiver). IsSomeAnd (struct_numbered surface o.1.struct_number) (λ _. ⊤)) (same_ok _ one e4) (numbered_is (λ s. bytes_eq s.name type.0) surface.structs it (ok_or_ok (find (λ s. bytes_eq s.name type.0) surface.structs) X2 it is3))))))

receiver_sound : (null : Bool) (surface : Surface) (declared : Declared) (words : List (List ℕ)) (read : Declared × Command) → IsSound surface declared → receiver_line null surface declared words ≡ Ok read → LineIsSound surface declared read
unfolding receiver_line
receiver_sound null surface declared words read sound e =
    first_ok (receiver_words null surface declared words) _ read e (λ one is e1.
    let size = one_more declared.receivers one.1 in
    subst (λ (r : Declared × Command). LineIsSound surface declared r) (same_ok _ read e1) (record {
      sound = record {
        names = named_stand (length declared.receivers) (length declared.sizes) (length declared.arrays) (length (declared.receivers ++ one.1 ∷ [])) (length declared.sizes) (length declared.arrays) declared.names one.0 (thing.Receiver (length declared.receivers)) (omega (arith, size)) (omega arith) (omega arith) sound.names (omega (arith, size));
        receivers = All-push (λ (receiver : Receiver). IsSomeAnd (struct_numbered surface receiver.struct_number) (λ _. ⊤)) declared.receivers one.1 sound.receivers (receiver_read null surface declared words one is);
        sizes = sound.sizes;
        arrays = sound.arrays;
      };
      grows = record { more = one.1 ∷ []; receivers = refl; sizes = omega arith; arrays = omega arith };
      may = tt;
    }))

-- `buf`
size_small : (declared : Declared) (words : List (List ℕ)) (one : List ℕ × ℕ) → buffer_words declared words ≡ Ok one → one.1 < 2 ^ 64
unfolding buffer_words buffer_size
size_small declared words one e =
    first_ok (new_store declared words) _ one e (λ name is1 e1.
    first_ok (next_word name.1) _ one e1 (λ digits is2 e2.
    first_ok (number_up_to 16777216 digits.0 >>= (λ size. fits_store declared size >>= (λ fits. Ok size))) _ one e2 (λ size is3 e3.
    first_ok (at_end digits.1) (λ over. Ok (name.0, size)) one e3 (λ over is4 e4.
    let small : size ≤ 16777216 = first_ok (number_up_to 16777216 digits.0) _ size is3 (λ n is5 e5. first_ok (fits_store declared n) (λ fits. Ok n) size e5 (λ fits is6 e6. subst (λ k. k ≤ 16777216) (same_ok n size e6) (number_bound 16777216 digits.0 n is5))) in
    subst (λ (o : List ℕ × ℕ). o.1 < 2 ^ 64) (same_ok _ one e4) (omega (arith, small))))))

buffer_sound : (surface : Surface) (declared : Declared) (words : List (List ℕ)) (read : Declared × Command) → IsSound surface declared → buffer_line declared words ≡ Ok read → LineIsSound surface declared read
unfolding buffer_line
buffer_sound surface declared words read sound e =
    first_ok (buffer_words declared words) _ read e (λ one is e1.
    let size = one_more declared.sizes one.1 in
    subst (λ (r : Declared × Command). LineIsSound surface declared r) (same_ok _ read e1) (record {
      sound = record {
        names = named_stand (length declared.receivers) (length declared.sizes) (length declared.arrays) (length declared.receivers) (length (declared.sizes ++ one.1 ∷ [])) (length declared.arrays) declared.names one.0 (thing.Buffer (length declared.sizes)) (omega arith) (omega (arith, size)) (omega arith) sound.names (omega (arith, size));
        receivers = sound.receivers;
        sizes = All-push (λ (n : ℕ). n < 2 ^ 64) declared.sizes one.1 sound.sizes (size_small declared words one is);
        arrays = sound.arrays;
      };
      grows = record { more = []; receivers = sym (append_nothing declared.receivers); sizes = omega (arith, size); arrays = omega arith };
      may = tt;
    }))

-- what HEX spells
unless_bytes : (x : Result (List ℕ) FromHexError) (bytes : List ℕ) → unless_misspelt x ≡ Ok bytes → x ≡ Ok bytes
unless_bytes (Ok b) bytes e = ap Ok (same_ok b bytes e)
unless_bytes (Err r) bytes e = no_value X3 bytes e

spelt_are_bytes : (word bytes : List ℕ) → bytes_spelt word ≡ Ok bytes → AreBytes bytes
unfolding bytes_spelt
spelt_are_bytes word bytes e =
    cond_ok (bytes_eq word (codes "-")) (Ok []) (unless_misspelt (decode_of word)) bytes e (λ t q. subst AreBytes (same_ok [] bytes q) (All-nil (λ (cell : ℕ). cell < 2 ^ 8))) (λ t q. decoded_are_bytes word bytes (unless_bytes (decode_of word) bytes q))

-- `bytes`
array_fits : (declared : Declared) (word bytes : List ℕ) → array_bytes declared word ≡ Ok bytes → IsByteArray bytes
unfolding array_bytes
array_fits declared word bytes e =
    first_ok (bytes_spelt word) _ bytes e (λ all is e1.
    first_ok (fits_store declared (length all)) (λ fits. Ok all) bytes e1 (λ fits is2 e2.
    let room : declared.stored + length all ≤ 67108864 = leb-true (declared.stored + length all) 67108864 (demand_ok (nat_le (declared.stored + length all) 67108864) X4 fits is2) in
    subst IsByteArray (same_ok all bytes e2) (spelt_are_bytes word all is, omega (arith, room))))

array_read : (declared : Declared) (words : List (List ℕ)) (one : List ℕ × List ℕ) → array_words declared words ≡ Ok one → IsByteArray one.1
unfolding array_words
array_read declared words one e =
    first_ok (new_store declared words) _ one e (λ name is1 e1.
    first_ok (next_word name.1) _ one e1 (λ digits is2 e2.
    first_ok (array_bytes declared digits.0) _ one e2 (λ bytes is3 e3.
    first_ok (at_end digits.1) (λ over. Ok (name.0, bytes)) one e3 (λ over is4 e4.
    subst (λ (o : List ℕ × List ℕ). IsByteArray o.1) (same_ok _ one e4) (array_fits declared digits.0 bytes is3)))))

array_sound : (surface : Surface) (declared : Declared) (words : List (List ℕ)) (read : Declared × Command) → IsSound surface declared → array_line declared words ≡ Ok read → LineIsSound surface declared read
unfolding array_line
array_sound surface declared words read sound e =
    first_ok (array_words declared words) _ read e (λ one is e1.
    let size = one_more declared.arrays one.1 in
    subst (λ (r : Declared × Command). LineIsSound surface declared r) (same_ok _ read e1) (record {
      sound = record {
        names = named_stand (length declared.receivers) (length declared.sizes) (length declared.arrays) (length declared.receivers) (length declared.sizes) (length (declared.arrays ++ one.1 ∷ [])) declared.names one.0 (thing.Array (length declared.arrays)) (omega arith) (omega arith) (omega (arith, size)) sound.names (omega (arith, size));
        receivers = sound.receivers;
        sizes = sound.sizes;
        arrays = All-push IsByteArray declared.arrays one.1 sound.arrays (array_read declared words one is);
      };
      grows = record { more = []; receivers = sym (append_nothing declared.receivers); sizes = omega arith; arrays = omega (arith, size) };
      may = tt;
    }))

-- lines that declare nothing
init_sound : (surface : Surface) (declared : Declared) (words : List (List ℕ)) (read : Declared × Command) → IsSound surface declared → init_line declared words ≡ Ok read → LineIsSound surface declared read
unfolding init_line
init_sound surface declared words read sound e =
    first_ok (next_word words) _ read e (λ name is1 e1.
    first_ok (known_receiver declared.names name.0) _ read e1 (λ k is2 e2.
    first_ok (at_end name.1) _ read e2 (λ over is3 e3.
    subst (λ (r : Declared × Command). LineIsSound surface declared r) (same_ok _ read e3) (stays surface declared (acts (init k declared.turns)) sound (receiver_stands (length declared.receivers) (length declared.sizes) (length declared.arrays) declared.names name.0 k sound.names is2)))))

named_is : (surface : Surface) (declared : Declared) (words : List (List ℕ)) (one : ℕ × List (List ℕ)) → IsSound surface declared → named_buffer declared words ≡ Ok one → one.0 < length declared.sizes
unfolding named_buffer
named_is surface declared words one sound e =
    first_ok (next_word words) _ one e (λ name is1 e1.
    first_ok (known_buffer declared.names name.0) (λ k. Ok (k, name.1)) one e1 (λ k is2 e2.
    subst (λ (o : ℕ × List (List ℕ)). o.0 < length declared.sizes) (same_ok _ one e2) (buffer_stands (length declared.receivers) (length declared.sizes) (length declared.arrays) declared.names name.0 k sound.names is2)))

put_sound : (surface : Surface) (declared : Declared) (words : List (List ℕ)) (read : Declared × Command) → IsSound surface declared → put_line declared words ≡ Ok read → LineIsSound surface declared read
unfolding put_line
put_sound surface declared words read sound e =
    first_ok (named_buffer declared words) _ read e (λ buffer is1 e1.
    first_ok (next_word buffer.1) _ read e1 (λ digits is2 e2.
    first_ok (bytes_spelt digits.0) _ read e2 (λ bytes is3 e3.
    first_ok (at_end digits.1) _ read e3 (λ over is4 e4.
    subst (λ (r : Declared × Command). LineIsSound surface declared r) (same_ok _ read e4) (stays surface declared (acts (put buffer.0 bytes)) sound (named_is surface declared words buffer sound is1, spelt_are_bytes digits.0 bytes is3))))))

only_is : (surface : Surface) (declared : Declared) (words : List (List ℕ)) (k : ℕ) → IsSound surface declared → only_buffer declared words ≡ Ok k → k < length declared.sizes
unfolding only_buffer
only_is surface declared words k sound e =
    first_ok (named_buffer declared words) _ k e (λ buffer is1 e1.
    first_ok (at_end buffer.1) (λ over. Ok buffer.0) k e1 (λ over is2 e2.
    subst (λ n. n < length declared.sizes) (same_ok buffer.0 k e2) (named_is surface declared words buffer sound is1)))

show_sound : (surface : Surface) (declared : Declared) (words : List (List ℕ)) (read : Declared × Command) → IsSound surface declared → show_line declared words ≡ Ok read → LineIsSound surface declared read
unfolding show_line
show_sound surface declared words read sound e =
    first_ok (next_word words) _ read e (λ name is1 e1.
    first_ok (known declared.names name.0) _ read e1 (λ it is2 e2.
    first_ok (shown it) _ read e2 (λ seen is3 e3.
    first_ok (at_end name.1) _ read e3 (λ over is4 e4.
    subst (λ (r : Declared × Command). LineIsSound surface declared r) (same_ok _ read e4) (stays surface declared (shows seen) sound tt)))))

turns_sound : (surface : Surface) (declared : Declared) (words : List (List ℕ)) (read : Declared × Command) → IsSound surface declared → turns_line declared words ≡ Ok read → LineIsSound surface declared read
unfolding turns_line
turns_sound surface declared words read sound e =
    first_ok (next_word words) _ read e (λ digits is1 e1.
    first_ok (number_up_to 10000000 digits.0) _ read e1 (λ n is2 e2.
    first_ok (at_end digits.1) _ read e2 (λ over is3 e3.
    subst (λ (r : Declared × Command). LineIsSound surface declared r) (same_ok _ read e3) (record {
      sound = record { names = sound.names; receivers = sound.receivers; sizes = sound.sizes; arrays = sound.arrays };
      grows = record { more = []; receivers = sym (append_nothing declared.receivers); sizes = omega arith; arrays = omega arith };
      may = tt;
    }))))

call_sound : (surface : Surface) (declared : Declared) (words : List (List ℕ)) (read : Declared × Command) → HasOwnNumbers surface → IsSound surface declared → call_line surface declared words ≡ Ok read → LineIsSound surface declared read
unfolding call_line
call_sound surface declared words read own sound e =
    first_ok (next_word words) _ read e (λ name is1 e1.
    first_ok (target_of surface declared name.0) _ read e1 (λ target is2 e2.
    first_ok (args_of declared.names target.method.args name.1) _ read e2 (λ args is3 e3.
    let them = args_are (length declared.receivers) (length declared.sizes) (length declared.arrays) declared.names target.method.args name.1 args sound.names is3 in
    let called : HostCall = record { receiver = target.receiver; method = target.method.number; args = map arg_of args } in
    let may : CanCall surface declared.receivers (length declared.sizes) (length declared.arrays) called = record {
      fit = some_and_from (called_method surface declared.receivers called) (λ (method : PublicMethod). FitKinds (length declared.sizes) (length declared.arrays) method.args (map arg_of args)) target.method (target_called surface declared name.0 target (map arg_of args) own is2) them.fit;
      buffers_once = them.buffers_once;
      arrays_once = them.arrays_once;
    } in
    subst (λ (r : Declared × Command). LineIsSound surface declared r) (same_ok _ read e3) (stays surface declared (acts (call target.receiver target.method.number (map arg_of args) declared.turns)) sound may))))

verb_sound : (verb : Verb) (surface : Surface) (declared : Declared) (words : List (List ℕ)) (read : Declared × Command) → HasOwnNumbers surface → IsSound surface declared → line_by verb surface declared words ≡ Ok read → LineIsSound surface declared read
verb_sound verb.New surface declared words read own sound e = receiver_sound false surface declared words read sound e
verb_sound verb.Null surface declared words read own sound e = receiver_sound true surface declared words read sound e
verb_sound verb.Init surface declared words read own sound e = init_sound surface declared words read sound e
verb_sound verb.Buf surface declared words read own sound e = buffer_sound surface declared words read sound e
verb_sound verb.Bytes surface declared words read own sound e = array_sound surface declared words read sound e
verb_sound verb.Put surface declared words read own sound e = put_sound surface declared words read sound e
verb_sound verb.Close surface declared words read own sound e = first_ok (only_buffer declared words) _ read e (λ k is q. subst (λ (r : Declared × Command). LineIsSound surface declared r) (same_ok _ read q) (stays surface declared (acts (close k)) sound (only_is surface declared words k sound is)))
verb_sound verb.Compact surface declared words read own sound e = first_ok (only_buffer declared words) _ read e (λ k is q. subst (λ (r : Declared × Command). LineIsSound surface declared r) (same_ok _ read q) (stays surface declared (acts (compact k)) sound (only_is surface declared words k sound is)))
verb_sound verb.Show surface declared words read own sound e = show_sound surface declared words read sound e
verb_sound verb.Turns surface declared words read own sound e = turns_sound surface declared words read sound e
verb_sound verb.Call surface declared words read own sound e = call_sound surface declared words read own sound e

pub line_sound : (surface : Surface) (declared : Declared) (words : List (List ℕ)) (read : Declared × Command) → HasOwnNumbers surface → IsSound surface declared → line_of surface declared words ≡ Ok read → LineIsSound surface declared read
unfolding line_of
line_sound surface declared words read own sound e =
    first_ok (next_word words) _ read e (λ first is1 e1.
    first_ok (ok_or (verb_of first.0) X1) _ read e1 (λ verb is2 e2. verb_sound verb surface declared first.1 read own sound e2))

-- What may come may come later too.
kind_later : (b a c d : ℕ) (kind : ArgKind) (one : HostArg) → b ≤ c → a ≤ d → FitsKind b a kind one → FitsKind c d kind one
kind_later b a c d (number bits) (host.num n) p q h = h
kind_later b a c d (number bits) (host.flag t) p q h = absurd h
kind_later b a c d (number bits) (host.io name) p q h = absurd h
kind_later b a c d (number bits) (host.bytes name) p q h = absurd h
kind_later b a c d flag (host.flag t) p q h = tt
kind_later b a c d flag (host.num n) p q h = absurd h
kind_later b a c d flag (host.io name) p q h = absurd h
kind_later b a c d flag (host.bytes name) p q h = absurd h
kind_later b a c d reader (host.io None) p q h = tt
kind_later b a c d reader (host.io (Some k)) p q h = omega (arith, p, h)
kind_later b a c d reader (host.num n) p q h = absurd h
kind_later b a c d reader (host.flag t) p q h = absurd h
kind_later b a c d reader (host.bytes name) p q h = absurd h
kind_later b a c d writer (host.io None) p q h = tt
kind_later b a c d writer (host.io (Some k)) p q h = omega (arith, p, h)
kind_later b a c d writer (host.num n) p q h = absurd h
kind_later b a c d writer (host.flag t) p q h = absurd h
kind_later b a c d writer (host.bytes name) p q h = absurd h
kind_later b a c d (slice bits) (host.bytes None) p q h = (h.0, tt)
kind_later b a c d (slice bits) (host.bytes (Some k)) p q h = (h.0, omega (arith, q, h.1))
kind_later b a c d (slice bits) (host.num n) p q h = absurd h
kind_later b a c d (slice bits) (host.flag t) p q h = absurd h
kind_later b a c d (slice bits) (host.io name) p q h = absurd h

kinds_later : (b a c d : ℕ) (declared : List PublicArg) (args : List HostArg) → b ≤ c → a ≤ d → FitKinds b a declared args → FitKinds c d declared args
kinds_later b a c d [] [] p q h = tt
kinds_later b a c d [] (v ∷ vs) p q h = absurd h
kinds_later b a c d (x ∷ xs) [] p q h = absurd h
kinds_later b a c d (x ∷ xs) (v ∷ vs) p q h = (kind_later b a c d x.kind v p q h.0, kinds_later b a c d xs vs p q h.1)

call_later : (surface : Surface) (receivers more : List Receiver) (b a c d : ℕ) (called : HostCall) → b ≤ c → a ≤ d → CanCall surface receivers b a called → CanCall surface (receivers ++ more) c d called
call_later surface receivers more b a c d called p q can = record {
  fit = some_and (called_method surface receivers called) (λ (method : PublicMethod). FitKinds b a method.args called.args) can.fit (λ method is fit. some_and_from (called_method surface (receivers ++ more) called) (λ (m : PublicMethod). FitKinds c d m.args called.args) method (called_later surface receivers more called method is) (kinds_later b a c d method.args called.args p q fit));
  buffers_once = can.buffers_once;
  arrays_once = can.arrays_once;
}

comes_later : (surface : Surface) (receivers more : List Receiver) (b a c d : ℕ) (command : Command) → b ≤ c → a ≤ d → MayCome surface receivers b a command → MayCome surface (receivers ++ more) c d command
comes_later surface receivers more b a c d (acts (init receiver within)) p q h = omega (arith, h, length-append receivers more)
comes_later surface receivers more b a c d (acts (call receiver method args within)) p q h = call_later surface receivers more b a c d (record { receiver = receiver; method = method; args = args }) p q h
comes_later surface receivers more b a c d (acts (put buffer bytes)) p q h = (omega (arith, p, h.0), h.1)
comes_later surface receivers more b a c d (acts (close buffer)) p q h = omega (arith, p, h)
comes_later surface receivers more b a c d (acts (compact buffer)) p q h = omega (arith, p, h)
comes_later surface receivers more b a c d (acts (replace others strings)) p q h = absurd h
comes_later surface receivers more b a c d (declares it) p q h = tt
comes_later surface receivers more b a c d (shows it) p q h = tt
comes_later surface receivers more b a c d (sets_turns n) p q h = tt

pub may_later : (surface : Surface) (before after : Declared) (command : Command) → Grows before after → MayCome surface before.receivers (length before.sizes) (length before.arrays) command → MayCome surface after.receivers (length after.sizes) (length after.arrays) command
may_later surface before after command grows h = subst (λ (rs : List Receiver). MayCome surface rs (length after.sizes) (length after.arrays) command) (sym grows.receivers) (comes_later surface before.receivers grows.more (length before.sizes) (length before.arrays) (length after.sizes) (length after.arrays) command grows.sizes grows.arrays h)
