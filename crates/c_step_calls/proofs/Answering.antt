-- An answer of a text of the unit form is of the kind that its method declares.
use Rattle.std.proofs.Common.{◌≡◌, ℕ, suc, ◌^◌, ◌<◌, Bool, true, false, List, [], ◌∷◌, ◌++◌, length, map, take, drop, ◌+◌, Option, Some, None, refl, sym, subst, ap, ◌∙◌, arith}
use Rattle.std.specs.Prelude.{◌&&◌, ◌||◌, if◌then◌else◌, nat_eq, find, reverse, slice_get, option_map, option_and_then, bytes_eq}
use Rattle.std.specs.List.{list_any, list_all}
use Rattle.std.proofs.lemmas.List.{reverse-append}
use Rattle.turns.specs.Run.{Outcome as Ran, Got, More, Lost}
use Rattle.wf_text.specs.Surface.{Surface, PublicStruct, PublicMethod}
use Rattle.wf_text.specs.Surface as kind
use Rattle.wf_text.specs.Seen.{Answer}
use Rattle.wf_text.specs.Seen as answer
use Rattle.wf_base.specs.HostRun.{Host, HostCall, answers}
use Rattle.wf_base.specs.LawfulActions.{struct_numbered, method_numbered}
use Rattle.wf_base.specs.declared.widths.Width.{Width}
use Rattle.wf_base.specs.declared.widths.Width.TheVariants.{W8, W16, W32, W64}
use Rattle.wf_base.specs.BaseTable.{bits_of}
use Rattle.wf_bufs.specs.declared.surfaces.AnswerKind.{AnswerKind}
use Rattle.wf_bufs.specs.declared.surfaces.AnswerKind.TheVariants.{Status as AStatus, Number as ANumber, Flag as AFlag, Nothing as ANothing}
use Rattle.wf_bufs.specs.declared.outcomes.Outcome.{Outcome}
use Rattle.wf_bufs.specs.SurfaceViews.{answer_kind_of}
use Rattle.wf_bufs.specs.EngineLaw.{done, FitsAnswer}
use Rattle.c_text.specs.declared.kinds.CUint.{CUint}
use Rattle.c_text.specs.declared.kinds.CUint.TheVariants as width
use Rattle.c_text.specs.CTree.{TypeTree, uint, size, boolean, uint_pointer, struct_pointer, text, ItemTree, struct_item, text_item, function_item}
use Rattle.c_text.proofs.Names.{bytes_eq-true, bytes_eq-refl}
use Rattle.c_meaning.specs.declared.values.Pointer.{Pointer}
use Rattle.c_meaning.specs.declared.values.CValue.{CValue}
use Rattle.c_meaning.specs.declared.values.CValue.TheVariants.{Numeric as numeric, Address as address, NullPointer as null_pointer}
use Rattle.c_meaning.specs.CValues.{is_nonzero}
use Rattle.c_meaning.specs.CMemory.{Memory}
use Rattle.c_meaning.specs.CTypes.{TextDecl, Function, functions_of, function_named, same_uint, same_type}
use Rattle.c_meaning.specs.CExprs.{cell_type}
use Rattle.c_meaning.specs.CStep.{Returned}
use Rattle.c_meaning.specs.CCall.{Program, program_of, host_call}
use Rattle.c_meaning.specs.CRun.{Loaded, function_name, most_args, all_values, call_memory, args_left, status_text, answer_of, answered_with, response, init_ended, init_of, initialize_name, call_ended, call_of}
use Rattle.c_meaning.specs.UnitForm.{Signature, uint_of, answer_type, method_signature, initialize_signature, struct_signatures, signatures, same_params, same_result, is_external, item_name, has_signature, meets_signature, meets_struct, meets_surface, free_name, formed_content, is_io_buffer, formed_item, break_from, HasUnitForm}
use Rattle.c_step_program.proofs.Apart.{functions_append, formed_here}
use Rattle.c_step_engine.specs.Engines.{number_of, outcome_for, given}
use Rattle.c_step_calls.specs.Kinds.{NumberIs, ResultIs}
use Rattle.c_step_calls.proofs.Results.{value_is}

both : (a b : Bool) → (a && b) ≡ true → (a ≡ true) × (b ≡ true)
both true true e = (refl, refl)
both true false e = absurd (cc (e))
both false b e = absurd (cc (e))

-- The number of a status.
status_below : (xs : List (List ℕ)) (them : List ℕ) → list_any (bytes_eq them) xs ≡ true → number_of xs them < length xs
status_below [] them e = absurd (cc (e))
status_below (x ∷ xs) them e = by_test (status_below xs them) (bytes_eq x them) refl e
  where
    other : bytes_eq x them ≡ false → bytes_eq them x ≡ false
    other h = by (bytes_eq them x) refl
      where
        by : (b : Bool) → bytes_eq them x ≡ b → bytes_eq them x ≡ false
        by false q = q
        by true q = let s : them ≡ x = bytes_eq-true them x q in absurd (cc (subst (λ (y : List ℕ). bytes_eq x y ≡ false) s h, bytes_eq-refl x))

    by_test : (list_any (bytes_eq them) xs ≡ true → number_of xs them < length xs) → (b : Bool) → bytes_eq x them ≡ b → (bytes_eq them x || list_any (bytes_eq them) xs) ≡ true
        → (if bytes_eq x them then 0 else suc (number_of xs them)) < suc (length xs)
    by_test later true h q = rw h (omega arith)
    by_test later false h q =
        let k : list_any (bytes_eq them) xs ≡ true = sym (ap (λ (b : Bool). b || list_any (bytes_eq them) xs) (other h)) ∙ q in
        let l = later k in
        rw h (omega (arith, l))

any_after : (xs : List (List ℕ)) (them : List ℕ) → list_any (bytes_eq them) (drop 1 xs) ≡ true → list_any (bytes_eq them) xs ≡ true
any_after [] them e = e
any_after (x ∷ xs) them e = ap (λ (b : Bool). bytes_eq them x || b) e ∙ or_true (bytes_eq them x)
  where
    or_true : (b : Bool) → (b || true) ≡ true
    or_true true = refl
    or_true false = refl

empty_first : (xs : List (List ℕ)) → slice_get xs 0 ≡ Some [] → list_any (bytes_eq []) xs ≡ true
empty_first [] e = absurd (cc (e))
empty_first (x ∷ xs) e = let s : x ≡ [] = cc (e) in ap (λ (y : List ℕ). bytes_eq [] y || list_any (bytes_eq []) xs) s

abbrev TextKnown : Surface → Option (List ℕ) → Type 0
TextKnown s None = Unit {0}
TextKnown s (Some them) = list_any (bytes_eq them) (drop 1 s.statuses) ≡ true

text_known : (s : Surface) (them : List ℕ) → TextKnown s (if list_any (bytes_eq them) (drop 1 s.statuses) then Some them else None)
text_known s them = by (list_any (bytes_eq them) (drop 1 s.statuses)) refl
  where
    by : (b : Bool) → list_any (bytes_eq them) (drop 1 s.statuses) ≡ b → TextKnown s (if b then Some them else None)
    by true e = e
    by false e = tt

status_known : (p : Program) (s : Surface) (q : Pointer) → TextKnown s (status_text p s q)
status_known p s q = by (nat_eq q.field 0 && nat_eq q.index 0) (slice_get p.texts q.object)
  where
    by_text : (o : Option TextDecl) → TextKnown s (option_and_then (λ it. if list_any (bytes_eq it.bytes) (drop 1 s.statuses) then Some it.bytes else None) o)
    by_text None = tt
    by_text (Some it) = text_known s it.bytes

    by : (b : Bool) (o : Option TextDecl) → TextKnown s (if b then option_and_then (λ it. if list_any (bytes_eq it.bytes) (drop 1 s.statuses) then Some it.bytes else None) o else None)
    by true o = by_text o
    by false o = tt

text_fits : (s : Surface) (o : Option (List ℕ)) (a : Answer) → TextKnown s o → option_map answer.status o ≡ Some a → FitsAnswer s kind.status (outcome_for s a)
text_fits s None a h e = absurd (cc (e))
text_fits s (Some them) a h e =
    let P : Answer → Type 0 = λ a. FitsAnswer s kind.status (outcome_for s a) in
    let is : answer.status them ≡ a = cc (e) in
    subst P is (status_below s.statuses them (any_after s.statuses them h))

status_fits : (p : Program) (s : Surface) (v : Option CValue) (a : Answer) → slice_get s.statuses 0 ≡ Some [] → answer_of p s kind.status v ≡ Some a → FitsAnswer s kind.status (outcome_for s a)
status_fits p s None a ok e = absurd (cc (e))
status_fits p s (Some null_pointer) a ok e =
    let P : Answer → Type 0 = λ a. FitsAnswer s kind.status (outcome_for s a) in
    let is : answer.status [] ≡ a = cc (e) in
    subst P is (status_below s.statuses [] (empty_first s.statuses ok))
status_fits p s (Some (address q)) a ok e = text_fits s (status_text p s q) a (status_known p s q) e
status_fits p s (Some (numeric n)) a ok e = absurd (cc (e))

-- A number of a type that is asked for.
uint_is : (a b : CUint) → same_uint a b ≡ true → b ≡ a
uint_is width.U8 width.U8 e = refl
uint_is width.U8 width.U16 e = absurd (cc (e))
uint_is width.U8 width.U32 e = absurd (cc (e))
uint_is width.U8 width.U64 e = absurd (cc (e))
uint_is width.U16 width.U8 e = absurd (cc (e))
uint_is width.U16 width.U16 e = refl
uint_is width.U16 width.U32 e = absurd (cc (e))
uint_is width.U16 width.U64 e = absurd (cc (e))
uint_is width.U32 width.U8 e = absurd (cc (e))
uint_is width.U32 width.U16 e = absurd (cc (e))
uint_is width.U32 width.U32 e = refl
uint_is width.U32 width.U64 e = absurd (cc (e))
uint_is width.U64 width.U8 e = absurd (cc (e))
uint_is width.U64 width.U16 e = absurd (cc (e))
uint_is width.U64 width.U32 e = absurd (cc (e))
uint_is width.U64 width.U64 e = refl

type_is : (a : CUint) (t : TypeTree) → same_type (uint a) t ≡ true → t ≡ uint a
type_is a (uint b) e = ap (λ (c : CUint). uint c) (uint_is a b e)
type_is a size e = absurd (cc (e))
type_is a boolean e = absurd (cc (e))
type_is a (uint_pointer b) e = absurd (cc (e))
type_is a (struct_pointer name) e = absurd (cc (e))
type_is a text e = absurd (cc (e))

number_fits : (w : Width) (t : TypeTree) (n : ℕ) → same_type (uint (uint_of (bits_of w))) t ≡ true → NumberIs (cell_type t) n → n < 2 ^ bits_of w
number_fits W8 t n e h = subst (λ (t : TypeTree). NumberIs (cell_type t) n) (type_is width.U8 t e) h
number_fits W16 t n e h = subst (λ (t : TypeTree). NumberIs (cell_type t) n) (type_is width.U16 t e) h
number_fits W32 t n e h = subst (λ (t : TypeTree). NumberIs (cell_type t) n) (type_is width.U32 t e) h
number_fits W64 t n e h = subst (λ (t : TypeTree). NumberIs (cell_type t) n) (type_is width.U64 t e) h

answer_fits : (p : Program) (s : Surface) (k : AnswerKind) (type : Option TypeTree) (v : Option CValue) (a : Answer) → slice_get s.statuses 0 ≡ Some [] → same_result (answer_type (answer_kind_of k)) type ≡ true
    → ResultIs type v → answer_of p s (answer_kind_of k) v ≡ Some a → FitsAnswer s (answer_kind_of k) (outcome_for s a)
answer_fits p s AStatus type v a ok same is e = status_fits p s v a ok e
answer_fits p s (ANumber w) type None a ok same is e = absurd (cc (e))
answer_fits p s (ANumber w) type (Some null_pointer) a ok same is e = absurd (cc (e))
answer_fits p s (ANumber w) type (Some (address q)) a ok same is e = absurd (cc (e))
answer_fits p s (ANumber w) None (Some (numeric n)) a ok same is e = absurd (cc (same))
answer_fits p s (ANumber w) (Some t) (Some (numeric n)) a ok same is e =
    let P : Answer → Type 0 = λ a. FitsAnswer s (kind.numeric (bits_of w)) (outcome_for s a) in
    let it : answer.num n.bits ≡ a = cc (e) in
    subst P it (number_fits w t n.bits same is)
answer_fits p s AFlag type None a ok same is e = absurd (cc (e))
answer_fits p s AFlag type (Some null_pointer) a ok same is e = absurd (cc (e))
answer_fits p s AFlag type (Some (address q)) a ok same is e = absurd (cc (e))
answer_fits p s AFlag type (Some (numeric n)) a ok same is e =
    let P : Answer → Type 0 = λ a. FitsAnswer s kind.truth (outcome_for s a) in
    let it : answer.flag (is_nonzero n) ≡ a = cc (e) in
    subst P it tt
answer_fits p s ANothing type v a ok same is e =
    let P : Answer → Type 0 = λ a. FitsAnswer s kind.nothing (outcome_for s a) in
    let it : answer.nothing ≡ a = cc (e) in
    subst P it tt

kind_fits : (p : Program) (s : Surface) (known : AnswerKind) (k : kind.AnswerKind) (type : Option TypeTree) (v : Option CValue) (a : Answer) → answer_kind_of known ≡ k → slice_get s.statuses 0 ≡ Some [] → same_result (answer_type k) type ≡ true
    → ResultIs type v → answer_of p s k v ≡ Some a → FitsAnswer s k (outcome_for s a)
kind_fits p s known k type v a is ok same r e =
    let P : kind.AnswerKind → Type 0 = λ k. same_result (answer_type k) type ≡ true → answer_of p s k v ≡ Some a → FitsAnswer s k (outcome_for s a) in
    subst P is (λ h i. answer_fits p s known type v a ok h r i) same e

-- What the package asks of a function of a text of the unit form.
abbrev IsAsked : Surface → Signature → Type 0
IsAsked p s = (q : Signature → Bool) → list_all q (signatures p) ≡ true → q s ≡ true

abbrev Answers : Surface → Function → Type 0
Answers p f = (s : Signature) → IsAsked p s → bytes_eq s.name f.name ≡ true → same_result s.result_type f.result_type ≡ true

abbrev AllAnswer : Surface → List Function → Type 0
AllAnswer p [] = Unit {0}
AllAnswer p (f ∷ fs) = Answers p f × AllAnswer p fs

all_both : (p : Surface) (fs gs : List Function) → AllAnswer p fs → AllAnswer p gs → AllAnswer p (fs ++ gs)
all_both p [] gs h k = k
all_both p (f ∷ fs) gs h k = (h.0, all_both p fs gs h.1 k)

all_reversed : (p : Surface) (fs : List Function) → AllAnswer p fs → AllAnswer p (reverse fs)
all_reversed p [] h = tt
all_reversed p (f ∷ fs) h = subst (AllAnswer p) (sym (reverse-append (f ∷ []) fs)) (all_both p (reverse fs) (f ∷ []) (all_reversed p fs h.1) (h.0, tt))

item_answers : (p : Surface) (item : ItemTree) → meets_surface p item ≡ true → AllAnswer p (functions_of (item ∷ []))
item_answers p (struct_item fields n) e = tt
item_answers p (text_item n bytes) e = tt
item_answers p (function_item linkage type n params locals body) e = (by_signature, tt)
  where
    meets : list_all (meets_signature (function_item linkage type n params locals body)) (signatures p) ≡ true
    meets = (both (list_all (meets_signature (function_item linkage type n params locals body)) (signatures p)) (list_all (meets_struct p (function_item linkage type n params locals body)) p.structs) e).0

    by_name : (s : Signature) (b : Bool) → b ≡ true → (if b then has_signature s (function_item linkage type n params locals body) else true) ≡ true → same_result s.result_type type ≡ true
    by_name s true h q = (both (same_params s.params params) (same_result s.result_type type) (both (is_external linkage) (same_params s.params params && same_result s.result_type type) q).1).1
    by_name s false h q = absurd (cc (h))

    by_signature : (s : Signature) → IsAsked p s → bytes_eq s.name n ≡ true → same_result s.result_type type ≡ true
    by_signature s asked h = by_name s (bytes_eq s.name n) h (asked (meets_signature (function_item linkage type n params locals body)) meets)

meets_here : (p : Surface) (before : List ItemTree) (all : List (List ℕ)) (item : ItemTree) → formed_item p before all item ≡ true → meets_surface p item ≡ true
meets_here p [] all item e = (both (is_io_buffer item) (meets_surface p item) e).1
meets_here p (first ∷ others) all item e =
    (both (formed_content (first ∷ others) all item) (meets_surface p item) (both (free_name (first ∷ others) item) (formed_content (first ∷ others) all item && meets_surface p item) e).1).1

answers_from : (p : Surface) (before all items : List ItemTree) → break_from p before all items ≡ None → AllAnswer p (functions_of items)
answers_from p before all [] e = tt
answers_from p before all (item ∷ items) e =
    let k : (formed_item p before (map item_name all) item ≡ true) × (break_from p (before ++ item ∷ []) all items ≡ None) = formed_here (formed_item p before (map item_name all) item) _ (length before) e in
    subst (AllAnswer p) (sym (functions_append (item ∷ []) items))
    (all_both p (functions_of (item ∷ [])) (functions_of items) (item_answers p item (meets_here p before (map item_name all) item k.0)) (answers_from p (before ++ item ∷ []) all items k.1))

found_answers : (p : Surface) (fs : List Function) (name : List ℕ) (f : Function) → AllAnswer p fs → function_named fs name ≡ Some f → Answers p f × (bytes_eq f.name name ≡ true)
found_answers p [] name f h e = absurd (cc (e))
found_answers p (g ∷ fs) name f h e = by (bytes_eq g.name name) refl (λ q. found_answers p fs name f h.1 q) e
  where
    by : (b : Bool) → bytes_eq g.name name ≡ b → (function_named fs name ≡ Some f → Answers p f × (bytes_eq f.name name ≡ true))
        → (if b then Some g else function_named fs name) ≡ Some f → Answers p f × (bytes_eq f.name name ≡ true)
    by true i later q = let s : g ≡ f = cc (q) in (subst (Answers p) s h.0, ap (λ (x : Function). bytes_eq x.name name) (sym s) ∙ i)
    by false i later q = later q

function_answers : (p : Surface) (items : List ItemTree) (s : Signature) (f : Function) → HasUnitForm p items → IsAsked p s → function_named (program_of items).functions s.name ≡ Some f → same_result s.result_type f.result_type ≡ true
function_answers p items s f form asked e =
    let k = found_answers p (reverse (functions_of items)) s.name f (all_reversed p (functions_of items) (answers_from p [] items items form)) e in
    let same : f.name ≡ s.name = bytes_eq-true f.name s.name k.1 in
    k.0 s asked (ap (bytes_eq s.name) same ∙ bytes_eq-refl s.name)

-- A public method is asked for.
all_append : (q : Signature → Bool) (xs ys : List Signature) → list_all q (xs ++ ys) ≡ true → (list_all q xs ≡ true) × (list_all q ys ≡ true)
all_append q [] ys e = (refl, e)
all_append q (x ∷ xs) ys e =
    let h = both (q x) (list_all q (xs ++ ys)) e in
    let k = all_append q xs ys h.1 in
    (ap (λ (b : Bool). b && list_all q xs) h.0 ∙ k.0, k.1)

asked_of : (p : Surface) (s : PublicStruct) (q : Signature → Bool) (ms : List PublicMethod) (j : ℕ) (m : PublicMethod) → list_all q (map (method_signature p s) ms) ≡ true → find (λ it. nat_eq it.number j) ms ≡ Some m
    → q (method_signature p s m) ≡ true
asked_of p s q [] j m h e = absurd (cc (e))
asked_of p s q (x ∷ ms) j m h e = by (λ a i. asked_of p s q ms j m a i) (nat_eq x.number j) (both (q (method_signature p s x)) (list_all q (map (method_signature p s) ms)) h) e
  where
    by : (list_all q (map (method_signature p s) ms) ≡ true → find (λ it. nat_eq it.number j) ms ≡ Some m → q (method_signature p s m) ≡ true) → (b : Bool) → (q (method_signature p s x) ≡ true) × (list_all q (map (method_signature p s) ms) ≡ true) → (if b then Some x else find (λ it. nat_eq it.number j) ms) ≡ Some m → q (method_signature p s m) ≡ true
    by later true k i = let same : x ≡ m = cc (i) in ap (λ (y : PublicMethod). q (method_signature p s y)) (sym same) ∙ k.0
    by later false k i = later k.1 i

asked_in : (p : Surface) (ss : List PublicStruct) (k j : ℕ) (s : PublicStruct) (m : PublicMethod) → find (λ it. nat_eq it.number k) ss ≡ Some s → method_numbered j s ≡ Some m → (q : Signature → Bool) → list_all q (struct_signatures p ss) ≡ true
    → q (method_signature p s m) ≡ true
asked_in p [] k j s m e i q h = absurd (cc (e))
asked_in p (x ∷ ss) k j s m e i q h =
    by (λ f a. asked_in p ss k j s m f i q a) (nat_eq x.number k) (all_append q (map (method_signature p x) x.methods) (struct_signatures p ss) (both (q (initialize_signature p x)) (list_all q (map (method_signature p x) x.methods ++ struct_signatures p ss)) h).1) e
  where
    by : (find (λ it. nat_eq it.number k) ss ≡ Some s → list_all q (struct_signatures p ss) ≡ true → q (method_signature p s m) ≡ true) → (b : Bool) → (list_all q (map (method_signature p x) x.methods) ≡ true) × (list_all q (struct_signatures p ss) ≡ true) → (if b then Some x else find (λ it. nat_eq it.number k) ss) ≡ Some s → q (method_signature p s m) ≡ true
    by later true l f =
        let same : x ≡ s = cc (f) in
        asked_of p s q s.methods j m (subst (λ (y : PublicStruct). list_all q (map (method_signature p y) y.methods) ≡ true) same l.0) i
    by later false l f = later f l.1

-- What a response gives.
done_of : {A : Type 0} (a b : Outcome) (x y : A) → done a x ≡ done b y → a ≡ b
done_of a b x y e = cc (e)

with_fits : {A : Type 0} (s : Surface) (k : kind.AnswerKind) (o : Option Answer) (left : Option A) (outcome : Outcome) (after : A) → ((a : Answer) → o ≡ Some a → FitsAnswer s k (outcome_for s a)) → given s (λ (x : A). x) (answered_with o left) ≡ done outcome after → FitsAnswer s k outcome
with_fits s k None left outcome after h e = absurd (cc (e))
with_fits s k (Some a) None outcome after h e = absurd (cc (e))
with_fits s k (Some a) (Some x) outcome after h e = subst (FitsAnswer s k) (done_of _ _ _ _ e) (h a refl)

module _ (items : List ItemTree) (it : Loaded) (form : HasUnitForm it.surface items) (is : it.program ≡ program_of items) (ok : slice_get it.surface.statuses 0 ≡ Some []) where
  pub call_fits : (memory : Memory) (k j : ℕ) (s : PublicStruct) (m : PublicMethod) (known : AnswerKind) (called : HostCall) (host : Host) (n : ℕ) (v : CValue) (outcome : Outcome) (after : Memory × Host)
      → struct_numbered it.surface k ≡ Some s → method_numbered j s ≡ Some m → answer_kind_of known ≡ m.answers → given it.surface (λ x. x) (call_of it memory s m called host n v) ≡ done outcome after → FitsAnswer it.surface m.answers outcome
  call_fits memory k j s m known called host n v outcome after se me ke e =
      by (host_call it.program (function_name it.surface s m.name) n (v ∷ all_values host (length memory) (length memory + most_args it.surface.structs) called.args) (call_memory host memory (most_args it.surface.structs) called.args)) refl e
    where
      result : (left : ℕ) (d : Returned) → host_call it.program (function_name it.surface s m.name) n (v ∷ all_values host (length memory) (length memory + most_args it.surface.structs) called.args) (call_memory host memory (most_args it.surface.structs) called.args) ≡ Got left d
          → (a : Answer) → answer_of it.program it.surface m.answers d.value ≡ Some a → FitsAnswer it.surface m.answers (outcome_for it.surface a)
      result left d q a i =
          let r = value_is it.program (function_name it.surface s m.name) n left (v ∷ all_values host (length memory) (length memory + most_args it.surface.structs) called.args) (call_memory host memory (most_args it.surface.structs) called.args) d q in
          let same : same_result (answer_type m.answers) r.0.result_type ≡ true = function_answers it.surface items (method_signature it.surface s m) r.0 form (asked_in it.surface it.surface.structs k j s m se me) (ap (λ (p : Program). function_named p.functions (function_name it.surface s m.name)) (sym is) ∙ r.1) in
          kind_fits it.program it.surface known m.answers r.0.result_type d.value a ke ok same r.2 i

      by : (o : Ran Returned) → host_call it.program (function_name it.surface s m.name) n (v ∷ all_values host (length memory) (length memory + most_args it.surface.structs) called.args) (call_memory host memory (most_args it.surface.structs) called.args) ≡ o
          → given it.surface (λ x. x) (response (call_ended it memory m called host (most_args it.surface.structs)) o) ≡ done outcome after → FitsAnswer it.surface m.answers outcome
      by (Got left d) q i =
          with_fits it.surface m.answers (answer_of it.program it.surface m.answers d.value) (option_map (λ left. (take (length memory) d.memory, left)) (args_left d.memory (length memory) (length memory + most_args it.surface.structs) called.args host)) outcome after (result left d q) i
      by More q i = absurd (cc (i))
      by Lost q i = absurd (cc (i))

  pub init_fits : (memory : Memory) (s : PublicStruct) (n : ℕ) (v : CValue) (outcome : Outcome) (after : Memory) → given it.surface (λ x. x) (init_of it memory s v n) ≡ done outcome after → FitsAnswer it.surface kind.status outcome
  init_fits memory s n v outcome after e = by (host_call it.program (initialize_name it.surface s) n (v ∷ []) memory) e
    where
      by : (o : Ran Returned) → given it.surface (λ x. x) (response (init_ended it (length memory)) o) ≡ done outcome after → FitsAnswer it.surface kind.status outcome
      by (Got left d) i =
          with_fits it.surface kind.status (answer_of it.program it.surface kind.status d.value) (Some (take (length memory) d.memory)) outcome after (λ a q. status_fits it.program it.surface d.value a ok q) i
      by More i = absurd (cc (i))
      by Lost i = absurd (cc (i))
