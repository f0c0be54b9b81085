-- The arguments that a call's words give fit the method, and name no buffer and no byte array twice.
use Rattle.std.proofs.Common.{◌≡◌, ℕ, zero, suc, ◌<◌, ◌≤◌, ◌-◌, ◌^◌, List, [], ◌∷◌, length, map, replicate, Bool, true, false, not, nat_eq, nat_lt, refl, sym, ◌∙◌, ap, subst, arith, Option, Some, None, Result, Ok, Err, All, slice_get, codes}
use Rattle.std.specs.Prelude.{⊤, slice_set, IfSome}
use Rattle.std.specs.List.{list_any, position}
use Rattle.std.specs.Option.{ok_or, is_some}
use Rattle.std.specs.Str.{bytes_eq}
use Rattle.std.proofs.lemmas.Bool.{or_parts, or_from, eqb-true, eqb-false, false_from_ne_true, ltb-false}
use Rattle.std.proofs.lemmas.Nat.{pow_pos}
use Rattle.std.proofs.lemmas.List.Elements.{All-nil, All-cons}
use Rattle.wf_text.specs.Surface.{PublicArg, ArgKind, number, flag, reader, writer, slice}
use Rattle.wf_base.specs.LawfulActions.{FitsKind, FitKinds, named_buffers, named_arrays, AreDistinct}
use Rattle.wf_bufs.specs.declared.calls.Arg.{Arg}
use Rattle.wf_bufs.specs.declared.calls.Arg.TheVariants as arg
use Rattle.wf_bufs.specs.HostViews.{arg_of}
use Rattle.wf_script_rules.specs.declared.rules.XRule.{XRule}
use Rattle.wf_script_rules.specs.declared.rules.XRule.TheVariants.{X1, X2, X3, X4, X5}
use Rattle.wf_script_rules.specs.Words.{demand, number_up_to, is_number, value_from, cut_at}
use Rattle.wf_script_rules.specs.Names.{Named}
use Rattle.wf_script_rules.specs.Values.{value_of, number_value, flag_value, io_value, bytes_value, is_null, known_buffer, known_array, unless_given, names_same, ArgWord, arg_word, arg_value, with_arg, with_args, all_given, args_of}
use Rattle.wf_script_drive.proofs.Readings.{same_ok, no_value, first_ok, cond_ok, demand_ok, ok_or_ok}
use Rattle.wf_script_drive.proofs.Names.{AllStand, buffer_stands, array_stands}

pub number_bound : (most : ℕ) (word : List ℕ) (n : ℕ) → number_up_to most word ≡ Ok n → n ≤ most
unfolding number_up_to
number_bound most word n e =
    cond_ok (not (is_number word)) (Err X3) _ n e (λ t q. no_value X3 n q) (λ t q.
    cond_ok (nat_lt most (value_from 0 word)) (Err X4) (Ok (value_from 0 word)) n q (λ u p. no_value X4 n p) (λ u p.
    let same : value_from 0 word ≡ n = same_ok (value_from 0 word) n p in
    let small : value_from 0 word ≤ most = ltb-false most (value_from 0 word) u in
    subst (λ k. k ≤ most) same small))

-- one value fits its kind
number_fits : (b a bits : ℕ) (word : List ℕ) (v : Arg) → number_value bits word ≡ Ok v → FitsKind b a (number bits) (arg_of v)
unfolding number_value
number_fits b a bits word v e =
    first_ok (number_up_to (2 ^ bits - 1) word) (λ n. Ok (arg.Num n)) v e (λ n is of.
    let below : n < 2 ^ bits = omega (arith, number_bound (2 ^ bits - 1) word n is, pow_pos bits) in
    subst (λ x. FitsKind b a (number bits) (arg_of x)) (same_ok (arg.Num n) v of) below)

flag_fits : (b a : ℕ) (word : List ℕ) (v : Arg) → flag_value word ≡ Ok v → FitsKind b a flag (arg_of v)
unfolding flag_value
flag_fits b a word v e =
    cond_ok (bytes_eq word (codes "true")) (Ok (arg.Flag true)) _ v e (λ t q. subst (λ x. FitsKind b a flag (arg_of x)) (same_ok (arg.Flag true) v q) tt) (λ t q.
    cond_ok (bytes_eq word (codes "false")) (Ok (arg.Flag false)) (Err X3) v q (λ u p. subst (λ x. FitsKind b a flag (arg_of x)) (same_ok (arg.Flag false) v p) tt) (λ u p. no_value X3 v p))

abbrev NamesBuffer : ℕ → Arg → Type 0
NamesBuffer b (arg.Io name) = IfSome name (λ k. k < b)
NamesBuffer b _ = ⊥

abbrev NamesArray : ℕ → Arg → Type 0
NamesArray a (arg.Bytes name) = IfSome name (λ k. k < a)
NamesArray a _ = ⊥

io_names : (r b a : ℕ) (names : List Named) (word : List ℕ) (v : Arg) → AllStand r b a names → io_value names word ≡ Ok v → NamesBuffer b v
unfolding io_value
io_names r b a names word v all e =
    cond_ok (is_null word) (Ok (arg.Io None)) _ v e (λ t q. subst (λ x. NamesBuffer b x) (same_ok (arg.Io None) v q) tt) (λ t q.
    first_ok (known_buffer names word) (λ k. Ok (arg.Io (Some k))) v q (λ k is of. subst (λ x. NamesBuffer b x) (same_ok (arg.Io (Some k)) v of) (buffer_stands r b a names word k all is)))

bytes_names : (r b a : ℕ) (names : List Named) (word : List ℕ) (v : Arg) → AllStand r b a names → bytes_value names word ≡ Ok v → NamesArray a v
unfolding bytes_value
bytes_names r b a names word v all e =
    cond_ok (is_null word) (Ok (arg.Bytes None)) _ v e (λ t q. subst (λ x. NamesArray a x) (same_ok (arg.Bytes None) v q) tt) (λ t q.
    first_ok (known_array names word) (λ k. Ok (arg.Bytes (Some k))) v q (λ k is of. subst (λ x. NamesArray a x) (same_ok (arg.Bytes (Some k)) v of) (array_stands r b a names word k all is)))

io_reads : (b a : ℕ) (v : Arg) → NamesBuffer b v → FitsKind b a reader (arg_of v)
io_reads b a (arg.Io name) h = h
io_reads b a (arg.Num n) h = absurd h
io_reads b a (arg.Flag t) h = absurd h
io_reads b a (arg.Bytes name) h = absurd h

io_writes : (b a : ℕ) (v : Arg) → NamesBuffer b v → FitsKind b a writer (arg_of v)
io_writes b a (arg.Io name) h = h
io_writes b a (arg.Num n) h = absurd h
io_writes b a (arg.Flag t) h = absurd h
io_writes b a (arg.Bytes name) h = absurd h

bytes_fit : (b a bits : ℕ) (v : Arg) → bits ≡ 8 → NamesArray a v → FitsKind b a (slice bits) (arg_of v)
bytes_fit b a bits (arg.Bytes name) e h = (e, h)
bytes_fit b a bits (arg.Num n) e h = absurd h
bytes_fit b a bits (arg.Flag t) e h = absurd h
bytes_fit b a bits (arg.Io name) e h = absurd h

value_fits : (r b a : ℕ) (names : List Named) (kind : ArgKind) (word : List ℕ) (v : Arg) → AllStand r b a names → value_of names kind word ≡ Ok v → FitsKind b a kind (arg_of v)
value_fits r b a names (number bits) word v all e = number_fits b a bits word v e
value_fits r b a names flag word v all e = flag_fits b a word v e
value_fits r b a names reader word v all e = io_reads b a v (io_names r b a names word v all e)
value_fits r b a names writer word v all e = io_writes b a v (io_names r b a names word v all e)
value_fits r b a names (slice bits) word v all e =
    cond_ok (nat_eq bits 8) (bytes_value names word) (Err X3) v e (λ t q. bytes_fit b a bits v (eqb-true bits 8 t) (bytes_names r b a names word v all q)) (λ t q. no_value X3 v q)

-- The arguments that were given so far fit.
abbrev FitSoFar : (b a : ℕ) → List PublicArg → List (Option Arg) → Type 0
FitSoFar b a [] [] = ⊤
FitSoFar b a (declared ∷ others) (one ∷ given) = IfSome one (λ v. FitsKind b a declared.kind (arg_of v)) × FitSoFar b a others given
FitSoFar b a declared given = ⊥

none_given : (b a : ℕ) (args : List PublicArg) → FitSoFar b a args (replicate (length args) None)
none_given b a [] = tt
none_given b a (x ∷ xs) = (tt, none_given b a xs)

fit_with : (b a : ℕ) (args : List PublicArg) (given : List (Option Arg)) (k : ℕ) (it : PublicArg) (v : Arg) → FitSoFar b a args given → slice_get args k ≡ Some it → FitsKind b a it.kind (arg_of v) → FitSoFar b a args (slice_set given k (Some v))
fit_with b a [] given k it v fit at h = absurd (cc (at))
fit_with b a (x ∷ xs) [] k it v fit at h = absurd fit
fit_with b a (x ∷ xs) (g ∷ gs) zero it v fit at h = (subst (λ (p : PublicArg). FitsKind b a p.kind (arg_of v)) (let e : x ≡ it = cc (at) in sym e) h, fit.1)
fit_with b a (x ∷ xs) (g ∷ gs) (suc k) it v fit at h = (fit.0, fit_with b a xs gs k it v fit.1 at h)

-- Two that were given name one buffer or one byte array.
abbrev clashes : Option Arg → Option Arg → Bool
clashes None other = false
clashes (Some v) other = names_same v other

abbrev Apart : List (Option Arg) → Type 0
Apart [] = ⊤
Apart (one ∷ given) = (list_any (clashes one) given ≡ false) × Apart given

none_clashes : (n : ℕ) → list_any (clashes None) (replicate n None) ≡ false
none_clashes zero = refl
none_clashes (suc n) = none_clashes n

none_apart : (n : ℕ) → Apart (replicate n None)
none_apart zero = tt
none_apart (suc n) = (none_clashes n, none_apart n)

other_way : (j k : ℕ) → nat_eq j k ≡ false → nat_eq k j ≡ false
other_way j k e = false_from_ne_true (nat_eq k j) (λ hit. eqb-false j k e (sym (eqb-true k j hit)))

clash_turned : (one : Option Arg) (v : Arg) → names_same v one ≡ false → clashes one (Some v) ≡ false
clash_turned None v e = refl
clash_turned (Some (arg.Num n)) v e = refl
clash_turned (Some (arg.Flag t)) v e = refl
clash_turned (Some (arg.Io None)) v e = refl
clash_turned (Some (arg.Bytes None)) v e = refl
clash_turned (Some (arg.Io (Some k))) (arg.Num n) e = refl
clash_turned (Some (arg.Io (Some k))) (arg.Flag t) e = refl
clash_turned (Some (arg.Io (Some k))) (arg.Io None) e = refl
clash_turned (Some (arg.Io (Some k))) (arg.Io (Some j)) e = other_way j k e
clash_turned (Some (arg.Io (Some k))) (arg.Bytes name) e = refl
clash_turned (Some (arg.Bytes (Some k))) (arg.Num n) e = refl
clash_turned (Some (arg.Bytes (Some k))) (arg.Flag t) e = refl
clash_turned (Some (arg.Bytes (Some k))) (arg.Io name) e = refl
clash_turned (Some (arg.Bytes (Some k))) (arg.Bytes None) e = refl
clash_turned (Some (arg.Bytes (Some k))) (arg.Bytes (Some j)) e = other_way j k e

any_with : (test : Option Arg → Bool) (given : List (Option Arg)) (k : ℕ) (one : Option Arg) → list_any test given ≡ false → test one ≡ false → list_any test (slice_set given k one) ≡ false
any_with test [] k one e h = refl
any_with test (g ∷ gs) zero one e h = or_from (test one) (list_any test gs) h (or_parts (test g) (list_any test gs) e).1
any_with test (g ∷ gs) (suc k) one e h = or_from (test g) (list_any test (slice_set gs k one)) (or_parts (test g) (list_any test gs) e).0 (any_with test gs k one (or_parts (test g) (list_any test gs) e).1 h)

apart_with : (given : List (Option Arg)) (k : ℕ) (v : Arg) → Apart given → list_any (names_same v) given ≡ false → Apart (slice_set given k (Some v))
apart_with [] k v apart e = tt
apart_with (g ∷ gs) zero v apart e = ((or_parts (names_same v g) (list_any (names_same v) gs) e).1, apart.1)
apart_with (g ∷ gs) (suc k) v apart e =
    let parts = or_parts (names_same v g) (list_any (names_same v) gs) e in (
      any_with (clashes g) gs k (Some v) apart.0 (clash_turned g v parts.0),
      apart_with gs k v apart.1 parts.1,
    )

-- one word more
unless_ok : (given : Bool) (value : Result Arg XRule) (v : Arg) → unless_given given value ≡ Ok v → value ≡ Ok v
unless_ok false value v e = e
unless_ok true (Ok w) v e = no_value X3 v e
unless_ok true (Err X1) v e = no_value X3 v e
unless_ok true (Err X2) v e = no_value X2 v e
unless_ok true (Err X3) v e = no_value X3 v e
unless_ok true (Err X4) v e = no_value X3 v e
unless_ok true (Err X5) v e = no_value X3 v e

word_kind : {P : Type 0} (args : List PublicArg) (word : List ℕ) (at : ArgWord) → arg_word args word ≡ Ok at → ((it : PublicArg) → slice_get args at.number ≡ Some it → at.kind ≡ it.kind → P) → P
unfolding arg_word
word_kind args word at e k =
    first_ok (ok_or (cut_at 61 word) X3) _ at e (λ parts cut e1.
    first_ok (ok_or (position (λ it. bytes_eq it.name parts.0) args) X3) _ at e1 (λ n found e2.
    first_ok (ok_or (slice_get args n) X3) (λ it. Ok (record { number = n; kind = it.kind; text = parts.1 })) at e2 (λ it got e3.
    let same : ◌≡◌ {A = ArgWord} (record { number = n; kind = it.kind; text = parts.1 }) at = same_ok _ at e3 in
    k it (ap (λ (w : ArgWord). slice_get args w.number) (sym same) ∙ ok_or_ok (slice_get args n) X3 it got) (ap (λ (w : ArgWord). w.kind) (sym same)))))

not_any : (b : Bool) → not b ≡ true → b ≡ false
not_any true e = absurd (cc (e))
not_any false e = refl

value_given : {P : Type 0} (names : List Named) (given : List (Option Arg)) (at : ArgWord) (v : Arg) → arg_value names given at ≡ Ok v → (value_of names at.kind at.text ≡ Ok v → list_any (names_same v) given ≡ false → P) → P
unfolding arg_value
value_given names given at v e k =
    first_ok (ok_or (slice_get given at.number) X3) _ v e (λ before got e1.
    first_ok (unless_given (is_some before) (value_of names at.kind at.text)) _ v e1 (λ value is e2.
    first_ok (demand (not (list_any (names_same value) given)) X5) (λ once. Ok value) v e2 (λ u once e3.
    let same : value ≡ v = same_ok value v e3 in
    k (unless_ok (is_some before) (value_of names at.kind at.text) value is ∙ ap Ok same) (subst (λ w. list_any (names_same w) given ≡ false) same (not_any (list_any (names_same value) given) (demand_ok (not (list_any (names_same value) given)) X5 u once))))))

-- What holds of the arguments given so far.
record IsGiven (b a : ℕ) (args : List PublicArg) (given : List (Option Arg)) : Type 0 where
  fit : FitSoFar b a args given
  apart : Apart given

one_given : (r b a : ℕ) (names : List Named) (args : List PublicArg) (given more : List (Option Arg)) (word : List ℕ) → AllStand r b a names → IsGiven b a args given → with_arg names args given word ≡ Ok more → IsGiven b a args more
unfolding with_arg
one_given r b a names args given more word all so_far e =
    first_ok (arg_word args word) _ more e (λ at is e1.
    first_ok (arg_value names given at) (λ value. Ok (slice_set given at.number (Some value))) more e1 (λ v gives e2.
    subst (λ l. IsGiven b a args l) (same_ok (slice_set given at.number (Some v)) more e2) (value_given names given at v gives (λ value once.
    word_kind args word at is (λ it got kind. record {
      fit = fit_with b a args given at.number it v so_far.fit got (subst (λ q. FitsKind b a q (arg_of v)) kind (value_fits r b a names at.kind at.text v all value));
      apart = apart_with given at.number v so_far.apart once;
    })))))

all_words : (r b a : ℕ) (names : List Named) (args : List PublicArg) (given more : List (Option Arg)) (words : List (List ℕ)) → AllStand r b a names → IsGiven b a args given → with_args names args given words ≡ Ok more → IsGiven b a args more
unfolding with_args
all_words r b a names args given more [] all so_far e = subst (λ l. IsGiven b a args l) (same_ok given more e) so_far
all_words r b a names args given more (word ∷ words) all so_far e =
    first_ok (with_arg names args given word) (λ next. with_args names args next words) more e (λ next is rest. all_words r b a names args next more words all (one_given r b a names args given next word all so_far is) rest)

-- no argument is missing
all_are : (given : List (Option Arg)) (args : List Arg) → all_given given ≡ Ok args → given ≡ map Some args
unfolding all_given
all_are [] args e = ap (λ (l : List Arg). map Some l) (same_ok [] args e)
all_are (one ∷ others) args e =
    first_ok (ok_or one X3) _ args e (λ first is e1.
    first_ok (all_given others) (λ rest. Ok (first ∷ rest)) args e1 (λ rest them e2.
    let front : one ≡ Some first = ok_or_ok one X3 first is in
    let behind : others ≡ map Some rest = all_are others rest them in
    let whole : first ∷ rest ≡ args = same_ok (first ∷ rest) args e2 in
    ap (λ (o : Option Arg). o ∷ others) front ∙ (ap (λ l. Some first ∷ l) behind ∙ ap (λ (l : List Arg). map Some l) whole)))

kinds_fit : (b a : ℕ) (args : List PublicArg) (all : List Arg) → FitSoFar b a args (map Some all) → FitKinds b a args (map arg_of all)
kinds_fit b a [] [] fit = tt
kinds_fit b a [] (v ∷ vs) fit = absurd fit
kinds_fit b a (x ∷ xs) [] fit = absurd fit
kinds_fit b a (x ∷ xs) (v ∷ vs) fit = (fit.0, kinds_fit b a xs vs fit.1)

other_buffers : (k : ℕ) (all : List Arg) → list_any (clashes (Some (arg.Io (Some k)))) (map Some all) ≡ false → All (λ (other : ℕ). k ≡ other → ⊥) (named_buffers (map arg_of all))
other_buffers k [] e = All-nil (λ (other : ℕ). k ≡ other → ⊥)
other_buffers k (arg.Num n ∷ all) e = other_buffers k all e
other_buffers k (arg.Flag t ∷ all) e = other_buffers k all e
other_buffers k (arg.Bytes name ∷ all) e = other_buffers k all e
other_buffers k (arg.Io None ∷ all) e = other_buffers k all e
other_buffers k (arg.Io (Some j) ∷ all) e =
    let parts = or_parts (nat_eq k j) (list_any (clashes (Some (arg.Io (Some k)))) (map Some all)) e in
    All-cons (λ (other : ℕ). k ≡ other → ⊥) j (named_buffers (map arg_of all)) (eqb-false k j parts.0) (other_buffers k all parts.1)

pub buffers_once : (all : List Arg) → Apart (map Some all) → AreDistinct (named_buffers (map arg_of all))
buffers_once [] apart = tt
buffers_once (arg.Num n ∷ all) apart = buffers_once all apart.1
buffers_once (arg.Flag t ∷ all) apart = buffers_once all apart.1
buffers_once (arg.Bytes name ∷ all) apart = buffers_once all apart.1
buffers_once (arg.Io None ∷ all) apart = buffers_once all apart.1
buffers_once (arg.Io (Some k) ∷ all) apart = (other_buffers k all apart.0, buffers_once all apart.1)

other_arrays : (k : ℕ) (all : List Arg) → list_any (clashes (Some (arg.Bytes (Some k)))) (map Some all) ≡ false → All (λ (other : ℕ). k ≡ other → ⊥) (named_arrays (map arg_of all))
other_arrays k [] e = All-nil (λ (other : ℕ). k ≡ other → ⊥)
other_arrays k (arg.Num n ∷ all) e = other_arrays k all e
other_arrays k (arg.Flag t ∷ all) e = other_arrays k all e
other_arrays k (arg.Io name ∷ all) e = other_arrays k all e
other_arrays k (arg.Bytes None ∷ all) e = other_arrays k all e
other_arrays k (arg.Bytes (Some j) ∷ all) e =
    let parts = or_parts (nat_eq k j) (list_any (clashes (Some (arg.Bytes (Some k)))) (map Some all)) e in
    All-cons (λ (other : ℕ). k ≡ other → ⊥) j (named_arrays (map arg_of all)) (eqb-false k j parts.0) (other_arrays k all parts.1)

pub arrays_once : (all : List Arg) → Apart (map Some all) → AreDistinct (named_arrays (map arg_of all))
arrays_once [] apart = tt
arrays_once (arg.Num n ∷ all) apart = arrays_once all apart.1
arrays_once (arg.Flag t ∷ all) apart = arrays_once all apart.1
arrays_once (arg.Io name ∷ all) apart = arrays_once all apart.1
arrays_once (arg.Bytes None ∷ all) apart = arrays_once all apart.1
arrays_once (arg.Bytes (Some k) ∷ all) apart = (other_arrays k all apart.0, arrays_once all apart.1)

-- What the arguments of a call are.
pub record AreArgs (b a : ℕ) (args : List PublicArg) (all : List Arg) : Type 0 where
  pub fit : FitKinds b a args (map arg_of all)
  pub buffers_once : AreDistinct (named_buffers (map arg_of all))
  pub arrays_once : AreDistinct (named_arrays (map arg_of all))

pub args_are : (r b a : ℕ) (names : List Named) (args : List PublicArg) (words : List (List ℕ)) (all : List Arg) → AllStand r b a names → args_of names args words ≡ Ok all → AreArgs b a args all
unfolding args_of
args_are r b a names args words all stand e =
    first_ok (with_args names args (replicate (length args) None) words) all_given all e (λ given is them.
    let first : IsGiven b a args (replicate (length args) None) = record { fit = none_given b a args; apart = none_apart (length args) } in
    let whole : IsGiven b a args (map Some all) = subst (λ l. IsGiven b a args l) (all_are given all them) (all_words r b a names args (replicate (length args) None) given words stand first is) in
    record { fit = kinds_fit b a args all whole.fit; buffers_once = buffers_once all whole.apart; arrays_once = arrays_once all whole.apart })
