-- What is kept of methods between calls.
use Rattle.std.proofs.Common.{◌≡◌, ℕ, zero, suc, ◌+◌, ◌<◌, ◌≤◌, List, [], ◌∷◌, length, map, set, get_or, Option, Some, None, refl, sym, ap, ◌∙◌, subst, arith}
use Rattle.std.specs.Prelude.{slice_get, option_map, option_and_then, unwrap_or, All}
use Rattle.wf_ast.specs.declared.declarations.Method.{Method}
use Rattle.wf_ast.specs.declared.typed_nodes.TypedNodes.{TypedNodes}
use Rattle.wf_ast.specs.TypedPackage.{PackageTree}
use Rattle.wf_meaning.specs.SourceState.{Object, Remaining}
use Rattle.wf_meaning.specs.World.{updated}
use Rattle.wf_meaning.specs.SourceCall.{set_remaining}
use Rattle.wf_mean_exprs.specs.declared.objects.KeptBody.{KeptBody}
use Rattle.wf_mean_exprs.specs.declared.objects.ObjectState.{ObjectState}
use Rattle.wf_mean_exprs.specs.MachineState.{all_remaining, object_seen, remaining_seen}
use Rattle.wf_mean_stmts.specs.Stages.{kept_lengths}
use Rattle.wf_mean_stmts.proofs.StoringLemmas.{set_same}
use Rattle.wf_mean_runs.specs.Bodies.{HasRoom, kept_in}
use Rattle.wf_mean_runs.specs.Frames.{local_counts, locals_of}

-- One of the lists of what remains.
pub all_set : (p : PackageTree) (n : ℕ) (ks : List KeptBody) (i : ℕ) (k : KeptBody) → all_remaining p n (set ks i k) ≡ updated (λ _. remaining_seen p (n + i) k) i (all_remaining p n ks)
all_set p n [] i k = refl
all_set p n (x ∷ xs) zero k = let e : n ≡ n + 0 = omega arith in ap (λ j. remaining_seen p j k ∷ all_remaining p (n + 1) xs) e
all_set p n (x ∷ xs) (suc i) k =
    let e : n + 1 + i ≡ n + suc i = omega arith in
    ap (λ r. remaining_seen p n x ∷ r) (all_set p (n + 1) xs i k ∙ ap (λ j. updated (λ _. remaining_seen p j k) i (all_remaining p (n + 1) xs)) e)

all_past : (p : PackageTree) (n : ℕ) (ks : List KeptBody) (i : ℕ) (change : Option Remaining → Option Remaining) → length ks ≤ i → all_remaining p n ks ≡ updated change i (all_remaining p n ks)
all_past p n [] i change h = refl
all_past p n (x ∷ xs) zero change h = absurd (omega (arith, h))
all_past p n (x ∷ xs) (suc i) change h = ap (λ r. remaining_seen p n x ∷ r) (all_past p (n + 1) xs i change (omega (arith, h)))

one_remaining : (p : PackageTree) (n : ℕ) (ks : List KeptBody) (i : ℕ) → slice_get (all_remaining p n ks) i ≡ option_map (remaining_seen p (n + i)) (slice_get ks i)
one_remaining p n [] i = refl
one_remaining p n (x ∷ xs) zero = let e : n ≡ n + 0 = omega arith in ap (λ j. Some (remaining_seen p j x)) e
one_remaining p n (x ∷ xs) (suc i) =
    let e : n + 1 + i ≡ n + suc i = omega arith in
    one_remaining p (n + 1) xs i ∙ ap (λ j. option_map (remaining_seen p j) (slice_get xs i)) e

-- A struct state in which one of them is set.
pub state_set : (p : PackageTree) (m : ℕ) (r : Option Remaining) (old : ObjectState) (k : KeptBody) → remaining_seen p m k ≡ r
    → (let it : Object = record (object_seen p old) { remaining = all_remaining p 0 (set old.kept.items m k) } in it) ≡ set_remaining m r (object_seen p old)
state_set p m r old k is =
    let f : List (Option Remaining) → Object = λ rs. record (object_seen p old) { remaining = rs } in
    let e : 0 + m ≡ m = omega arith in
    ap f (all_set p 0 old.kept.items m k ∙ ap (λ j. updated (λ _. remaining_seen p j k) m (all_remaining p 0 old.kept.items)) e ∙ ap (λ x. updated (λ _. x) m (all_remaining p 0 old.kept.items)) is)

pub state_past : (p : PackageTree) (m : ℕ) (r : Option Remaining) (old : ObjectState) → length old.kept.items ≤ m → object_seen p old ≡ set_remaining m r (object_seen p old)
state_past p m r old h =
    let f : List (Option Remaining) → Object = λ rs. record (object_seen p old) { remaining = rs } in
    ap f (all_past p 0 old.kept.items m (λ _. r) h)

pub lengths_set : (ks : List KeptBody) (m : ℕ) (k d : KeptBody) → m < length ks → length k.locals.items ≡ length (get_or ks m d).locals.items → map (λ (k : KeptBody). length k.locals.items) (set ks m k) ≡ map (λ (k : KeptBody). length k.locals.items) ks
lengths_set ks m k d h e = set_same (λ (k : KeptBody). length k.locals.items) ks m k d h e

-- One item of a list.
pub get_at : {X : Type 0} (xs : List X) (i : ℕ) (d : X) → i < length xs → slice_get xs i ≡ Some (get_or xs i d)
get_at [] i d h = absurd (omega (arith, h))
get_at (x ∷ xs) zero d h = refl
get_at (x ∷ xs) (suc i) d h = get_at xs i d (omega (arith, h))

pub get_past : {X : Type 0} (xs : List X) (i : ℕ) → length xs ≤ i → slice_get xs i ≡ None
get_past [] i h = refl
get_past (x ∷ xs) zero h = absurd (omega (arith, h))
get_past (x ∷ xs) (suc i) h = get_past xs i (omega (arith, h))

get_map : {X Y : Type 0} (f : X → Y) (xs : List X) (i : ℕ) → slice_get (map f xs) i ≡ option_map f (slice_get xs i)
get_map f [] i = refl
get_map f (x ∷ xs) zero = refl
get_map f (x ∷ xs) (suc i) = get_map f xs i

-- What remains of a called method is what is kept of it.
pub kept_remains : (p : PackageTree) (objects : List ObjectState) (object m : ℕ)
    → option_and_then (λ (o : Object). unwrap_or (slice_get o.remaining m) None) (slice_get (map (object_seen p) objects) object) ≡ option_and_then (remaining_seen p m) (kept_in objects object m)
kept_remains p objects object m =
    ap (option_and_then (λ (o : Object). unwrap_or (slice_get o.remaining m) None)) (get_map (object_seen p) objects object) ∙ by_object (slice_get objects object)
  where
    by_kept : (o : Option KeptBody) → unwrap_or (option_map (remaining_seen p m) o) None ≡ option_and_then (remaining_seen p m) o
    by_kept None = refl
    by_kept (Some k) = refl

    by_object : (o : Option ObjectState) → option_and_then (λ (o : Object). unwrap_or (slice_get o.remaining m) None) (option_map (object_seen p) o) ≡ option_and_then (remaining_seen p m) (option_and_then (λ (o : ObjectState). slice_get o.kept.items m) o)
    by_object None = refl
    by_object (Some o) =
        let e : 0 + m ≡ m = omega arith in
        ap (λ r. unwrap_or r None) (one_remaining p 0 o.kept.items m) ∙ ap (λ j. unwrap_or (option_map (remaining_seen p j) (slice_get o.kept.items m)) None) e ∙ by_kept (slice_get o.kept.items m)

-- There is room for as many locals as the method has.
counts_room : (ms : List Method) (ks : List KeptBody) (m : ℕ) → map (λ (k : KeptBody). length k.locals.items) ks ≡ map (λ (it : Method). length it.locals) ms → (d : Method) → m < length ms → HasRoom (slice_get ks m) (length (get_or ms m d).locals)
counts_room ms [] m e d h = tt
counts_room [] (k ∷ ks) m e d h = absurd (omega (arith, h))
counts_room (x ∷ ms) (k ∷ ks) zero e d h = cc (e)
counts_room (x ∷ ms) (k ∷ ks) (suc m) e d h = let rest : map (λ (k : KeptBody). length k.locals.items) ks ≡ map (λ (it : Method). length it.locals) ms = cc (e) in counts_room ms ks m rest d (omega (arith, h))

room_in : (nodes : TypedNodes) (objects : List ObjectState) (object m : ℕ) (d : Method) → All (λ counts. counts ≡ local_counts nodes) (map kept_lengths objects) → m < length nodes.methods → HasRoom (kept_in objects object m) (length (get_or nodes.methods m d).locals)
room_in nodes [] object m d h l = tt
room_in nodes (o ∷ os) zero m d h l = counts_room nodes.methods o.kept.items m (h 0 [] (omega arith)) d l
room_in nodes (o ∷ os) (suc object) m d h l = room_in nodes os object m d (λ k e less. h (suc k) e (omega (arith, less))) l

pub has_room : (nodes : TypedNodes) (objects : List ObjectState) (object m n : ℕ) → All (λ counts. counts ≡ local_counts nodes) (map kept_lengths objects) → m < length nodes.methods → n ≡ length (locals_of nodes m) → HasRoom (kept_in objects object m) n
has_room nodes objects object m n h l e = by_method (slice_get nodes.methods m) refl
  where
    by_method : (o : Option Method) → slice_get nodes.methods m ≡ o → HasRoom (kept_in objects object m) n
    by_method None q = absurd (past nodes.methods m l q)
      where
        past : (ms : List Method) (i : ℕ) → i < length ms → slice_get ms i ≡ None → ⊥
        past [] i h q = omega (arith, h)
        past (x ∷ xs) zero h q = cc (q)
        past (x ∷ xs) (suc i) h q = past xs i (omega (arith, h)) q
    by_method (Some method) q =
        let P : ℕ → Type 0 = λ k. HasRoom (kept_in objects object m) k in
        let there : method ≡ get_or nodes.methods m method = cc (get_at nodes.methods m method l, q) in
        let same : length (get_or nodes.methods m method).locals ≡ n = ap (λ (it : Method). length it.locals) (sym there) ∙ sym (rw q at e) in
        subst P same (room_in nodes objects object m method h l)
