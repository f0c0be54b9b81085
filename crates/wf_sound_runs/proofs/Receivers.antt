-- A call of a receiver: it is never stuck, and leaves the receiver and the host as they may be.
use Rattle.std.proofs.Common.{◌≡◌, ℕ, zero, suc, ◌^◌, ◌<◌, true, false, List, [], ◌∷◌, length, Option, Some, None, refl, subst, nat_eq, arith}
use Rattle.std.specs.Prelude.{slice_get, unwrap_or, Result, Ok, Err, reverse}
use Rattle.wf_facts_exprs.specs.Demands.{or_else}
use Rattle.std.specs.List.{list_all}
use Rattle.std.proofs.lemmas.Bool.{and_parts}
use Rattle.std.proofs.lemmas.Bool.Decides.{nat_tests}
use Rattle.wf_text.specs.declared.place.Place.{Place}
use Rattle.wf_text.specs.HostActions.{HostArg}
use Rattle.wf_base.specs.HostRun.{Host}
use Rattle.wf_base.specs.LawfulActions.{FitKinds, named_buffers, AreDistinct}
use Rattle.wf_ast.specs.declared.typed_nodes.TypedNodes.{TypedNodes}
use Rattle.wf_ast.specs.TypedInvariant.{IsTyped}
use Rattle.wf_ast.specs.TypedPackage.{MethodTree, PackageTree, package_of}
use Rattle.wf_ast.specs.Value.{Value}
use Rattle.wf_ast.specs.WellTyped.{all_structs_whole, well_method, well_typed, calls_in_front}
use Rattle.wf_meaning.specs.SourceState.{Object}
use Rattle.wf_meaning.specs.World.{World}
use Rattle.wf_meaning.specs.SourceCall.{host_values, all_bodies, entry_of}
use Rattle.wf_text.specs.declared.rules.Refusal.{Refusal}
use Rattle.wf_bounds_stmts.specs.FactRules.{Known}
use Rattle.wf_bounds_stmts.specs.MethodRules.{through_method, refusal_in, methods_refusal, local_at, facts_refusal}
use Rattle.wf_sound.specs.Worlds.{Shape, IsLawfulWorld}
use Rattle.wf_sound.specs.Callees.{RunsWell}
use Rattle.wf_sound.proofs.CallRuns.{entered-runs}
use Rattle.wf_sound.proofs.StatementLaw.{item-holds, methods-well, results-fit}
use Rattle.wf_sound_runs.specs.Chains.{well_made}
use Rattle.wf_sound_runs.specs.Accepted.{HasShortArrays, IsAccepted}
use Rattle.wf_sound_runs.proofs.Running.{IsResumable}
use Rattle.wf_sound_runs.proofs.BodyRuns.{MethodAccepted}
use Rattle.wf_sound_runs.proofs.CallOrder.{order-turned, in-order}
use Rattle.wf_sound_runs.proofs.Packages.{bodies-run}
use Rattle.wf_sound_runs.proofs.HostWorlds.{ObjectsLawful, HostLawful, with-host}
use Rattle.wf_sound_runs.proofs.HostValues.{host-typed, host-apart}
use Rattle.wf_sound_runs.proofs.Surfaces.{kinds_of}

-- No method is refused.
record Through (places : ℕ → Place) (p : PackageTree) (m : MethodTree) : Type 0 where
  known : Known
  is : through_method places p m ≡ Ok known

passed : (places : ℕ → Place) (p : PackageTree) (m : MethodTree) → refusal_in (through_method places p m) ≡ None → Through places p m
passed places p m h = by (through_method places p m) refl h
  where
    by : (r : Result Known Refusal) → through_method places p m ≡ r → refusal_in r ≡ None → Through places p m
    by (Ok known) e h = record { known = known; is = e }
    by (Err refusal) e h = absurd (cc (h))

record Neither (o q : Option Refusal) : Type 0 where
  first : o ≡ None
  second : q ≡ None

neither : (o q : Option Refusal) → or_else o q ≡ None → Neither o q
neither None q h = record { first = refl; second = h }
neither (Some r) q h = absurd (cc (h))

record SomeThrough (p : PackageTree) (m : MethodTree) : Type 0 where
  places : ℕ → Place
  it : Through places p m

all-through : (places : ℕ → ℕ → Place) (p : PackageTree) (n : ℕ) (ms : List MethodTree) → methods_refusal places p n ms ≡ None → (k : ℕ) (m : MethodTree) → slice_get ms k ≡ Some m → SomeThrough p m
all-through places p n [] h k m e = absurd (cc (e))
all-through places p n (x ∷ ms) h k m e = by k e (neither (refusal_in (through_method (places n) p x)) (methods_refusal places p (suc n) ms) h) (λ q k e. all-through places p (suc n) ms q k m e)
  where
    by : (k : ℕ) → slice_get (x ∷ ms) k ≡ Some m → Neither (refusal_in (through_method (places n) p x)) (methods_refusal places p (suc n) ms)
        → (methods_refusal places p (suc n) ms ≡ None → (k : ℕ) → slice_get ms k ≡ Some m → SomeThrough p m) → SomeThrough p m
    by zero e q further =
        let same : x ≡ m = cc (e) in
        let P : MethodTree → Type 0 = λ m. SomeThrough p m in
        subst P same (record { places = places n; it = passed (places n) p x q.first })
    by (suc k) e q further = further q.second k e

pub accepted-nodes : (nodes : TypedNodes) → IsTyped nodes → facts_refusal nodes ≡ None → list_all (λ m. well_made m.body) (package_of nodes).methods ≡ true → HasShortArrays (package_of nodes) → IsAccepted (local_at nodes) (package_of nodes)
unfolding facts_refusal
accepted-nodes nodes typed none made short = record { typed = typed.rules; made = made; short = short; facts = none }

module _ (places : ℕ → ℕ → Place) (p : PackageTree) (accepted : IsAccepted places p) where
  pub method-accepted : (k : ℕ) (m : MethodTree) → slice_get p.methods k ≡ Some m → MethodAccepted p m
  method-accepted k m e =
      let t : SomeThrough p m = all-through places p 0 p.methods accepted.facts k m e in
      record {
        well = item-holds (well_method p) p.methods k m (methods-well p accepted.typed) e;
        made = item-holds (λ m. well_made m.body) p.methods k m accepted.made e;
        local_at = t.places;
        known = t.it.known;
        through = t.it.is;
      }

  record Ordered : Type 0 where
    long : length p.order ≡ length p.methods
    calls : calls_in_front p [] p.order ≡ true

  ordered : well_typed p ≡ true → Ordered
  unfolding well_typed
  ordered h =
      let a = and_parts (all_structs_whole p 0 p.structs) _ h in
      let b = and_parts (list_all (well_method p) p.methods) _ a.1 in
      let c = and_parts (nat_eq (length p.order) (length p.methods)) _ b.1 in
      record { long = grind (arith, nat_tests, c.0); calls = (and_parts (calls_in_front p [] p.order) _ c.1).0 }

  module _ (structs lens : List ℕ) (buffers : ℕ) (objects : List Object) (h : Host) (well : ObjectsLawful p structs objects) (lawful : HostLawful p lens buffers h) (short : (a len : ℕ) → slice_get lens a ≡ Some len → len < 2 ^ 64) where
    abbrev shape : Shape
    shape = record { structs = structs; arrays = lens; buffers = buffers }

    abbrev w : World
    w = record { objects = objects; host = h }

    lawful-world : IsLawfulWorld p (IsResumable p) shape w
    lawful-world = with-host p structs lens buffers objects h well lawful

    pub entry-runs : (k : ℕ) (m : MethodTree) (args : List HostArg) (n : ℕ) → slice_get p.methods k ≡ Some m → slice_get structs 0 ≡ Some m.of → FitKinds buffers (length lens) (kinds_of m.args) args → AreDistinct (named_buffers args)
        → RunsWell p (IsResumable p) shape m (unwrap_or (host_values h.arrays m.args args) []) w (entry_of p m k (host_values h.arrays m.args args) n w)
    entry-runs k m args n numbered of fits once = by (host_values h.arrays m.args args) refl
      where
        runs : (vs : List Value) → host_values h.arrays m.args args ≡ Some vs → RunsWell p (IsResumable p) shape m vs w (all_bodies p (record { object = 0; method = k; args = vs }) n w)
        runs vs e =
            let o : Ordered = ordered accepted.typed in
            (bodies-run p shape accepted.typed method-accepted (reverse p.order) (order-turned p o.calls).calls k (in-order p k m o.calls o.long numbered) n w lawful-world).runs m 0 vs numbered of
            (host-typed p structs lens buffers h lawful short m.args args vs fits e) (host-apart p structs lens buffers h lawful short m.args args vs once e)

        by : (o : Option (List Value)) → host_values h.arrays m.args args ≡ o → RunsWell p (IsResumable p) shape m (unwrap_or o []) w (entry_of p m k o n w)
        by None e = entered-runs p (IsResumable p) shape (all_bodies p) m 0 k [] n w lawful-world (results-fit p accepted.typed k m numbered) false (well.there 0 m.of of) (λ i. absurd (cc (i)))
        by (Some vs) e = entered-runs p (IsResumable p) shape (all_bodies p) m 0 k vs n w lawful-world (results-fit p accepted.typed k m numbered) true (well.there 0 m.of of) (λ i. runs vs e)
