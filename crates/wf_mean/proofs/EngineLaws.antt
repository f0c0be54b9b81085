-- The law of an engine, for the engine of a package's source.
use Rattle.std.proofs.Common.{◌≡◌, ℕ, zero, suc, ◌+◌, ◌<◌, ◌≤◌, Bool, true, false, ◌&&◌, List, [], ◌∷◌, length, map, take, Option, Some, None, refl, sym, ap, ◌∙◌, subst, nat_eq, arith}
use Rattle.std.specs.Prelude.{slice_get, find, cond, option_and_then, IsSomeAnd, if◌then◌else◌}
use Rattle.std.proofs.lemmas.Bool.Decides.{nat_tests}
use Rattle.wf_text.specs.Surface.{PublicMethod, PublicStruct}
use Rattle.wf_text.specs.Surface as surface
use Rattle.wf_text.specs.HostActions.{Receiver}
use Rattle.wf_base.specs.HostRun.{Host, HostCall}
use Rattle.wf_base.specs.LawfulActions.{CanCall, FitKinds, called_method, method_numbered, method_of}
use Rattle.wf_ast.specs.BaseStatuses.{base_statuses}
use Rattle.wf_ast.specs.declared.typed_nodes.TypedNodes.{TypedNodes}
use Rattle.wf_ast.specs.TypedInvariant.{IsTyped}
use Rattle.wf_ast.specs.TypedPackage.{MethodTree, PackageTree, StructTree, package_of, public_method, public_methods, public_structs, surface_of}
use Rattle.wf_bufs.specs.declared.calls.ReceiverDecl.{ReceiverDecl}
use Rattle.wf_bufs.specs.SurfaceViews.{receiver_of}
use Rattle.wf_bufs.specs.declared.outcomes.Outcome.{Outcome}
use Rattle.wf_bufs.specs.declared.outcomes.Reply.{Reply}
use Rattle.wf_bufs.specs.declared.outcomes.Reply.TheVariants.{Done, Turns, Undefined}
use Rattle.wf_bufs.specs.EngineLaw.{done, DoneFits, FitsAnswer, FitsCalled, KeepsSizes, Replies, stops}
use Rattle.wf_meaning.specs.SourceState.{Object, SourceState, fresh_state}
use Rattle.wf_mean.specs.declared.receivers.ReceiverState.{ReceiverState}
use Rattle.wf_mean.specs.SourceEngines.{EngineState, call_gives, first_state, init_gives, init_of, kind_told}
use Rattle.wf_mean.specs.Machines.{receivers_seen, state_seen, EngineView}
use Rattle.wf_mean.proofs.GivesLaws.{call-fits, call-keeps}

abbrev pub view : TypedNodes → List ReceiverState → Bool → EngineView
view nodes receivers stopped = record { nodes = nodes; receivers = receivers; stopped = stopped }

-- The receivers stay as they were declared.
pub declared-same : (old new : List ReceiverState) → map (λ (r : ReceiverState). r.decl) new ≡ map (λ (r : ReceiverState). r.decl) old → map (λ (r : ReceiverState). receiver_of r.decl) new ≡ map (λ (r : ReceiverState). receiver_of r.decl) old
declared-same old new e = sym (through new) ∙ ap (map receiver_of) e ∙ through old
  where
    through : (xs : List ReceiverState) → map receiver_of (map (λ (r : ReceiverState). r.decl) xs) ≡ map (λ (r : ReceiverState). receiver_of r.decl) xs
    through [] = refl
    through (x ∷ xs) = ap (λ more. receiver_of x.decl ∷ more) (through xs)

-- The state after an init or a call that has an outcome.
after : (nodes : TypedNodes) (old new : List ReceiverState) (s : Bool) → s ≡ false → map (λ (r : ReceiverState). r.decl) new ≡ map (λ (r : ReceiverState). r.decl) old
    → record (state_seen (view nodes old s)) { objects = receivers_seen (package_of nodes) new } ≡ state_seen (view nodes new false)
after nodes old new s e same =
    let P : Bool → Type 0 = λ s. record (state_seen (view nodes old s)) { objects = receivers_seen (package_of nodes) new } ≡ state_seen (view nodes new false) in
    subst P (sym e) (ap (λ (rs : List Receiver). record (state_seen (view nodes new false)) { receivers = rs }) (sym (declared-same old new same)))

pub init-law : (nodes : TypedNodes) (old new : List ReceiverState) (s : Bool) (receiver turns : ℕ) (reply : Reply) → s ≡ false → map (λ (r : ReceiverState). r.decl) new ≡ map (λ (r : ReceiverState). r.decl) old
    → Replies (init_gives (state_seen (view nodes old s)) receiver turns) reply (record (state_seen (view nodes old s)) { objects = receivers_seen (package_of nodes) new })
    → Replies (init_gives (state_seen (view nodes old s)) receiver turns) reply (state_seen (view nodes new (stops reply)))
init-law nodes old new s receiver turns (Done outcome) e same h = h ∙ ap (done outcome) (after nodes old new s e same)
init-law nodes old new s receiver turns Turns e same h = h
init-law nodes old new s receiver turns Undefined e same h = h

pub call-law : (nodes : TypedNodes) (old new : List ReceiverState) (s : Bool) (called : HostCall) (before left : Host) (turns : ℕ) (reply : Reply) → s ≡ false → map (λ (r : ReceiverState). r.decl) new ≡ map (λ (r : ReceiverState). r.decl) old
    → Replies (call_gives (state_seen (view nodes old s)) called before turns) reply (record (state_seen (view nodes old s)) { objects = receivers_seen (package_of nodes) new }, left)
    → Replies (call_gives (state_seen (view nodes old s)) called before turns) reply (state_seen (view nodes new (stops reply)), left)
call-law nodes old new s called before left turns (Done outcome) e same h = h ∙ ap (λ (x : EngineState). done outcome (x, left)) (after nodes old new s e same)
call-law nodes old new s called before left turns Turns e same h = h
call-law nodes old new s called before left turns Undefined e same h = h

pub call-sizes : (e : EngineState) (called : HostCall) (before left : Host) (turns : ℕ) (reply : Reply) (x : EngineState) → Replies (call_gives e called before turns) reply (x, left) → KeepsSizes reply before left
call-sizes e called before left turns (Done outcome) x h = call-keeps e called before turns outcome (x, left) h
call-sizes e called before left turns Turns x h = tt
call-sizes e called before left turns Undefined x h = tt

-- A typed package has the base statuses.
pub has-statuses : (nodes : TypedNodes) → IsTyped nodes → 9 < length (package_of nodes).statuses
unfolding package_of
has-statuses nodes typed = by nodes.statuses typed.base_first
  where
    few : (n : ℕ) (xs : List (List ℕ)) → length (take n xs) ≤ length xs
    few zero xs = omega arith
    few (suc n) [] = omega arith
    few (suc n) (x ∷ xs) = let h = few n xs in omega (arith, h)

    by : (xs : List (List ℕ)) → take 10 xs ≡ base_statuses → 9 < length xs
    by xs e = let h = few 10 xs in let k : length (take 10 xs) ≡ 10 = ap (λ (ys : List (List ℕ)). length ys) e in omega (arith, h, k)

done-of : (a o : Outcome) (y z : EngineState) → done a y ≡ done o z → a ≡ o
done-of a o y z k = cc (k)

pub init-kind : (nodes : TypedNodes) → IsTyped nodes → (e : EngineState) (receiver turns : ℕ) (reply : Reply) (x : EngineState) → e.package_tree ≡ package_of nodes → Replies (init_gives e receiver turns) reply x → DoneFits (surface_of e.package_tree) surface.status reply
unfolding init_gives surface_of
init-kind nodes typed e receiver turns (Done outcome) x is h = by (slice_get e.objects receiver) h
  where
    many : 9 < length e.package_tree.statuses
    many = let P : PackageTree → Type 0 = λ p. 9 < length p.statuses in subst P (sym is) (has-statuses nodes typed)

    by : (o : Option (Option (List Object))) → init_of e receiver o ≡ done outcome x → FitsAnswer (surface_of e.package_tree) surface.status outcome
    by None k = absurd (cc (k))
    by (Some None) k =
        let P : Outcome → Type 0 = λ o. FitsAnswer (surface_of e.package_tree) surface.status o in
        subst P (done-of _ _ _ _ k) (omega (arith, many))
    by (Some (Some objects)) k =
        let P : Outcome → Type 0 = λ o. FitsAnswer (surface_of e.package_tree) surface.status o in
        subst P (done-of _ _ _ _ k) (omega (arith, many))
init-kind nodes typed e receiver turns Turns x is h = tt
init-kind nodes typed e receiver turns Undefined x is h = tt

-- The method that a host's call means.
record Meant (p : PackageTree) (k : ℕ) (it : PublicMethod) : Type 0 where
  m : MethodTree
  at : slice_get p.methods k ≡ Some m
  answers : it.answers ≡ kind_told m

record MeantFrom (n : ℕ) (ms : List MethodTree) (k : ℕ) (it : PublicMethod) : Type 0 where
  m : MethodTree
  place : ℕ
  at : slice_get ms place ≡ Some m
  number : k ≡ n + place
  answers : it.answers ≡ kind_told m

meant-method : (s n : ℕ) (ms : List MethodTree) (k : ℕ) (it : PublicMethod) → find (λ method. nat_eq method.number k) (public_methods s n ms) ≡ Some it → MeantFrom n ms k it
meant-method s n [] k it e = absurd (cc (e))
meant-method s n (x ∷ ms) k it e = by (x.public && nat_eq x.of s) (λ h. later (meant-method s (suc n) ms k it h)) e
  where
    later : MeantFrom (suc n) ms k it → MeantFrom n (x ∷ ms) k it
    later f = record { m = f.m; place = suc f.place; at = f.at; number = omega (arith, f.number); answers = f.answers }

    found : (t : Bool) → nat_eq n k ≡ t → (find (λ method. nat_eq method.number k) (public_methods s (suc n) ms) ≡ Some it → MeantFrom n (x ∷ ms) k it)
        → cond t (Some (public_method n x)) (find (λ method. nat_eq method.number k) (public_methods s (suc n) ms)) ≡ Some it → MeantFrom n (x ∷ ms) k it
    found true i further h =
        let same : public_method n x ≡ it = cc (h) in
        record { m = x; place = 0; at = refl; number = grind (arith, nat_tests, i); answers = ap (λ (it : PublicMethod). it.answers) (sym same) }
    found false i further h = further h

    by : (t : Bool) → (find (λ method. nat_eq method.number k) (public_methods s (suc n) ms) ≡ Some it → MeantFrom n (x ∷ ms) k it)
        → find (λ method. nat_eq method.number k) (if t then public_method n x ∷ public_methods s (suc n) ms else public_methods s (suc n) ms) ≡ Some it → MeantFrom n (x ∷ ms) k it
    by true further h = found (nat_eq n k) refl further h
    by false further h = further h

meant-struct : (methods : List MethodTree) (n : ℕ) (ss : List StructTree) (k : ℕ) (it : PublicStruct) → find (λ it. nat_eq it.number k) (public_structs methods n ss) ≡ Some it → (s : ℕ) × (it.methods ≡ public_methods s 0 methods)
meant-struct methods n [] k it e = absurd (cc (e))
meant-struct methods n (s ∷ ss) k it e = by s.public (λ h. meant-struct methods (suc n) ss k it h) e
  where
    mine : PublicStruct
    mine = record { number = n; name = s.name; methods = public_methods n 0 methods }

    found : (t : Bool) → (find (λ it. nat_eq it.number k) (public_structs methods (suc n) ss) ≡ Some it → (s : ℕ) × (it.methods ≡ public_methods s 0 methods))
        → cond t (Some mine) (find (λ it. nat_eq it.number k) (public_structs methods (suc n) ss)) ≡ Some it → (s : ℕ) × (it.methods ≡ public_methods s 0 methods)
    found true further h = let same : mine ≡ it = cc (h) in (n, ap (λ (it : PublicStruct). it.methods) (sym same))
    found false further h = further h

    by : (t : Bool) → (find (λ it. nat_eq it.number k) (public_structs methods (suc n) ss) ≡ Some it → (s : ℕ) × (it.methods ≡ public_methods s 0 methods))
        → find (λ it. nat_eq it.number k) (if t then mine ∷ public_structs methods (suc n) ss else public_structs methods (suc n) ss) ≡ Some it → (s : ℕ) × (it.methods ≡ public_methods s 0 methods)
    by true further h = found (nat_eq n k) further h
    by false further h = further h

module _ (p : PackageTree) (k : ℕ) where
  meant-in : (s : PublicStruct) (it : PublicMethod) → (of : ℕ) × (s.methods ≡ public_methods of 0 p.methods) → method_numbered k s ≡ Some it → Meant p k it
  meant-in s it of e =
      let P : List PublicMethod → Type 0 = λ xs. find (λ method. nat_eq method.number k) xs ≡ Some it in
      let f : MeantFrom 0 p.methods k it = meant-method of.0 0 p.methods k it (subst P of.1 e) in
      let same : f.place ≡ k = omega (arith, f.number) in
      record { m = f.m; at = ap (slice_get p.methods) (sym same) ∙ f.at; answers = f.answers }

  meant-of : (n : ℕ) (it : PublicMethod) (o : Option PublicStruct) → find (λ s. nat_eq s.number n) (public_structs p.methods 0 p.structs) ≡ o → option_and_then (method_numbered k) o ≡ Some it → Meant p k it
  meant-of n it None i e = absurd (cc (e))
  meant-of n it (Some s) i e = meant-in s it (meant-struct p.methods 0 p.structs n s i) e

meant : (p : PackageTree) (receivers : List Receiver) (called : HostCall) (it : PublicMethod) → called_method (surface_of p) receivers called ≡ Some it → Meant p called.method it
unfolding surface_of
meant p receivers called it e = by (slice_get receivers called.receiver) e
  where
    by : (o : Option Receiver) → option_and_then (method_of (surface_of p) called.method) o ≡ Some it → Meant p called.method it
    by None e = absurd (cc (e))
    by (Some receiver) e = meant-of p called.method receiver.struct_number it (find (λ s. nat_eq s.number receiver.struct_number) (public_structs p.methods 0 p.structs)) refl e

pub call-kind : (nodes : TypedNodes) → IsTyped nodes → (e : EngineState) (receivers : List Receiver) (called : HostCall) (before left : Host) (turns : ℕ) (reply : Reply) (x : EngineState) (Fit : PublicMethod → Type 0) → e.package_tree ≡ package_of nodes
    → IsSomeAnd (called_method (surface_of e.package_tree) receivers called) Fit → Replies (call_gives e called before turns) reply (x, left) → FitsCalled (surface_of e.package_tree) receivers called reply
call-kind nodes typed e receivers called before left turns reply x Fit is fit h = by (called_method (surface_of e.package_tree) receivers called) refl fit
  where
    some : 0 < length e.package_tree.statuses
    some = let P : PackageTree → Type 0 = λ p. 0 < length p.statuses in subst P (sym is) (let k = has-statuses nodes typed in omega (arith, k))

    fits : (it : PublicMethod) → Meant e.package_tree called.method it → (reply : Reply) → Replies (call_gives e called before turns) reply (x, left) → DoneFits (surface_of e.package_tree) it.answers reply
    fits it f (Done outcome) h =
        let P : surface.AnswerKind → Type 0 = λ kind. FitsAnswer (surface_of e.package_tree) kind outcome in
        subst P (sym f.answers) (call-fits e called before turns outcome (x, left) f.m f.at some h)
    fits it f Turns h = tt
    fits it f Undefined h = tt

    by : (o : Option PublicMethod) → called_method (surface_of e.package_tree) receivers called ≡ o → IsSomeAnd o Fit → IsSomeAnd o (λ method. DoneFits (surface_of e.package_tree) method.answers reply)
    by None i k = absurd k
    by (Some it) i k = fits it (meant e.package_tree receivers called it i) reply h

-- The same of an engine as others see it.
module _ (nodes : TypedNodes) (old new : List ReceiverState) (s s' : Bool) (v : EngineView) (seen : view nodes old s ≡ v) where
  pub receivers-told : map (λ (r : ReceiverState). r.decl) new ≡ map (λ (r : ReceiverState). r.decl) old → map (λ (r : ReceiverState). receiver_of r.decl) new ≡ map (λ (r : ReceiverState). receiver_of r.decl) v.receivers
  receivers-told same = declared-same old new same ∙ ap (λ (v : EngineView). map (λ (r : ReceiverState). receiver_of r.decl) v.receivers) seen

  abbrev pub InitGives : (receiver : ℕ) → Reply → Type 0
  InitGives receiver reply =
      (e : EngineState) (turns : ℕ) → e.package_tree ≡ package_of nodes → e.objects ≡ receivers_seen (package_of nodes) old → Replies (init_gives e receiver turns) reply (record e { objects = receivers_seen (package_of nodes) new })

  goes-on : v.stopped ≡ false → s ≡ false
  goes-on on = ap (λ (v : EngineView). v.stopped) seen ∙ on

  pub init-told : (receiver turns : ℕ) (reply : Reply) → v.stopped ≡ false → s' ≡ stops reply → map (λ (r : ReceiverState). r.decl) new ≡ map (λ (r : ReceiverState). r.decl) old
      → InitGives receiver reply → Replies (init_gives (state_seen v) receiver turns) reply (state_seen (view nodes new s'))
  init-told receiver turns reply on stopped same gives =
      let P : EngineView → Type 0 = λ v. Replies (init_gives (state_seen v) receiver turns) reply (state_seen (view nodes new s')) in
      let Q : Bool → Type 0 = λ s'. Replies (init_gives (state_seen (view nodes old s)) receiver turns) reply (state_seen (view nodes new s')) in
      subst P seen (subst Q (sym stopped) (init-law nodes old new s receiver turns reply (goes-on on) same (gives (state_seen (view nodes old s)) turns refl refl)))

  pub init-kind-told : IsTyped nodes → (receiver : ℕ) (reply : Reply) → InitGives receiver reply → DoneFits (surface_of (package_of v.nodes)) surface.status reply
  init-kind-told typed receiver reply gives =
      let P : EngineView → Type 0 = λ v. DoneFits (surface_of (package_of v.nodes)) surface.status reply in
      let e : EngineState = state_seen (view nodes old s) in
      subst P seen (init-kind nodes typed e receiver 0 reply (record e { objects = receivers_seen (package_of nodes) new }) refl (gives e 0 refl refl))

  abbrev pub CallGives : HostCall → (before left : Host) → (turns : ℕ) → Reply → Type 0
  CallGives called before left turns reply =
      (e : EngineState) → e.package_tree ≡ package_of nodes → e.objects ≡ receivers_seen (package_of nodes) old → Replies {After = EngineState × Host} (call_gives e called before turns) reply (record e { objects = receivers_seen (package_of nodes) new }, left)

  pub call-told : (called : HostCall) (before left : Host) (turns : ℕ) (reply : Reply) → v.stopped ≡ false → s' ≡ stops reply → map (λ (r : ReceiverState). r.decl) new ≡ map (λ (r : ReceiverState). r.decl) old
      → CallGives called before left turns reply → Replies (call_gives (state_seen v) called before turns) reply (state_seen (view nodes new s'), left)
  call-told called before left turns reply on stopped same gives =
      let P : EngineView → Type 0 = λ v. Replies {After = EngineState × Host} (call_gives (state_seen v) called before turns) reply (state_seen (view nodes new s'), left) in
      let Q : Bool → Type 0 = λ s'. Replies {After = EngineState × Host} (call_gives (state_seen (view nodes old s)) called before turns) reply (state_seen (view nodes new s'), left) in
      subst P seen (subst Q (sym stopped) (call-law nodes old new s called before left turns reply (goes-on on) same (gives (state_seen (view nodes old s)) refl refl)))

  pub call-kind-told : IsTyped nodes → (buffers arrays : ℕ) (called : HostCall) (before left : Host) (turns : ℕ) (reply : Reply)
      → CanCall (surface_of (package_of v.nodes)) (map (λ (r : ReceiverState). receiver_of r.decl) v.receivers) buffers arrays called
      → CallGives called before left turns reply → FitsCalled (surface_of (package_of v.nodes)) (map (λ (r : ReceiverState). receiver_of r.decl) v.receivers) called reply
  call-kind-told typed buffers arrays called before left turns reply can gives =
      let P : EngineView → Type 0 = λ v. FitsCalled (surface_of (package_of v.nodes)) (map (λ (r : ReceiverState). receiver_of r.decl) v.receivers) called reply in
      let Q : EngineView → Type 0 = λ v. CanCall (surface_of (package_of v.nodes)) (map (λ (r : ReceiverState). receiver_of r.decl) v.receivers) buffers arrays called in
      let e : EngineState = state_seen (view nodes old s) in
      let mine = subst Q (sym seen) can in
      subst P seen (call-kind nodes typed e e.receivers called before left turns reply (record e { objects = receivers_seen (package_of nodes) new }) (λ method. FitKinds buffers arrays method.args called.args) refl mine.fit (gives e refl refl))

  pub call-sizes-told : (called : HostCall) (before left : Host) (turns : ℕ) (reply : Reply) → CallGives called before left turns reply → KeepsSizes reply before left
  call-sizes-told called before left turns reply gives =
      let e : EngineState = state_seen (view nodes old s) in
      call-sizes e called before left turns reply (record e { objects = receivers_seen (package_of nodes) new }) (gives e refl refl)

-- An engine that has been loaded.
pub load-told : (nodes given : TypedNodes) (all : List ReceiverState) (declared : List ReceiverDecl) → nodes ≡ given → map (λ (r : ReceiverState). r.decl) all ≡ declared → receivers_seen (package_of nodes) all ≡ fresh_state (package_of nodes) (map receiver_of declared)
    → state_seen (view nodes all false) ≡ first_state (package_of given) (map receiver_of declared)
load-told nodes given all declared same told fresh =
    let P : TypedNodes → Type 0 = λ x. state_seen (view nodes all false) ≡ first_state (package_of x) (map receiver_of declared) in
    subst P same (ap (λ (rs : List Receiver). record (state_seen (view nodes all false)) { receivers = rs }) (sym (through all) ∙ ap (map receiver_of) told)
    ∙ ap (λ (os : SourceState). record (first_state (package_of nodes) (map receiver_of declared)) { objects = os }) fresh)
  where
    through : (xs : List ReceiverState) → map receiver_of (map (λ (r : ReceiverState). r.decl) xs) ≡ map (λ (r : ReceiverState). receiver_of r.decl) xs
    through [] = refl
    through (x ∷ xs) = ap (λ more. receiver_of x.decl ∷ more) (through xs)
