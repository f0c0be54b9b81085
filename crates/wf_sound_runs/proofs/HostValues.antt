-- A host's arguments as values: they lie in their types, and no buffer stands twice among them.
use Rattle.std.proofs.Common.{◌≡◌, ◌⊎◌, inl, inr, ℕ, zero, suc, ◌^◌, ◌≤◌, ◌<◌, Bool, true, false, ◌&&◌, List, [], ◌∷◌, length, Option, Some, None, refl, sym, ap, ◌∙◌, subst, arith}
use Rattle.std.specs.Prelude.{slice_get, unwrap_or, nat_le, All, if◌then◌else◌}
use Rattle.std.proofs.lemmas.Bool.{and_parts}
use Rattle.std.proofs.lemmas.Bool.Decides.{nat_tests}
use Rattle.std.proofs.lemmas.List.Elements.{All-head, All-tail}
use Rattle.wf_text.specs.HostActions.{HostArg}
use Rattle.wf_text.specs.HostActions as host
use Rattle.wf_base.specs.HostRun.{Host}
use Rattle.wf_base.specs.LawfulActions.{FitsKind, FitKinds, named_buffers, AreDistinct}
use Rattle.wf_ast.specs.declared.types.Ty.{Ty}
use Rattle.wf_ast.specs.declared.types.Ty.TheVariants as types
use Rattle.wf_ast.specs.TypedPackage.{Variable, PackageTree, kind_of}
use Rattle.wf_ast.specs.WellTyped.{variable_at}
use Rattle.wf_ast.specs.Value.{Value, num, truth_value, span, buffer, host_array}
use Rattle.wf_facts_exprs.specs.LawfulState.{IsOf}
use Rattle.wf_meaning.specs.World.{empty_span}
use Rattle.wf_meaning.specs.SourceCall.{host_value, cons_value, host_values}
use Rattle.wf_sound.specs.Worlds.{Shape, IsOfType, HaveTypes, AreApart, numbers_of}
use Rattle.wf_sound_runs.proofs.HostWorlds.{HostLawful}
use Rattle.wf_sound_runs.proofs.Surfaces.{kinds_of}

pub item-there : {X : Type 0} (xs : List X) (k : ℕ) → k < length xs → (x : X) × (slice_get xs k ≡ Some x)
item-there [] k h = absurd (omega (arith, h))
item-there (x ∷ xs) zero h = (x, refl)
item-there (x ∷ xs) (suc k) h = item-there xs k (omega (arith, h))

module _ (p : PackageTree) (structs lens : List ℕ) (buffers : ℕ) (h : Host) (lawful : HostLawful p lens buffers h) (short : (a len : ℕ) → slice_get lens a ≡ Some len → len < 2 ^ 64) where
  abbrev shape : Shape
  shape = record { structs = structs; arrays = lens; buffers = buffers }

  number-in : (lo hi n : ℕ) (v : Value) (t : Bool) → (nat_le lo n && nat_le n hi) ≡ t → (if t then Some (num n) else None) ≡ Some v → (v ≡ num n) × (lo ≤ n) × (n ≤ hi)
  number-in lo hi n v true e i =
      let q = and_parts (nat_le lo n) _ e in
      (cc (i), grind (arith, nat_tests, q.0), grind (arith, nat_tests, q.1))
  number-in lo hi n v false e i = absurd (cc (i))

  host-value : (ty : Ty) (arg : HostArg) (v : Value) → FitsKind buffers (length lens) (kind_of ty) arg → host_value h.arrays ty arg ≡ Some v → IsOfType p shape ty v
  host-value (types.Num width lo hi) (host.num n) v f e =
      let q = number-in lo hi n v (nat_le lo n && nat_le n hi) refl e in
      let P : Value → Type 0 = λ v. IsOfType p shape (types.Num width lo hi) v in
      let of : IsOf (numbers_of width lo hi) n = record { above = q.1; below = q.2 } in
      subst P (sym q.0) of
  host-value (types.Num width lo hi) arg v f e = absurd (cc (e))
  host-value types.Flag (host.flag b) v f e =
      let same : truth_value b ≡ v = cc (e) in
      let P : Value → Type 0 = λ v. IsOfType p shape types.Flag v in
      subst P same tt
  host-value types.Flag arg v f e = absurd (cc (e))
  host-value types.Reader (host.io (Some k)) v f e =
      let same : buffer k ≡ v = cc (e) in
      let P : Value → Type 0 = λ v. IsOfType p shape types.Reader v in
      subst P same f
  host-value types.Reader (host.io None) v f e = absurd (cc (e))
  host-value types.Reader arg v f e = absurd (cc (e))
  host-value types.Writer (host.io (Some k)) v f e =
      let same : buffer k ≡ v = cc (e) in
      let P : Value → Type 0 = λ v. IsOfType p shape types.Writer v in
      subst P same f
  host-value types.Writer (host.io None) v f e = absurd (cc (e))
  host-value types.Writer arg v f e = absurd (cc (e))
  host-value (types.Slice width) (host.bytes None) v f e =
      let same : span empty_span ≡ v = cc (e) in
      let P : Value → Type 0 = λ v. IsOfType p shape (types.Slice width) v in
      let empty : IsOfType p shape (types.Slice width) (span empty_span) = record { few = omega arith; inside = omega arith; takes = refl } in
      subst P same empty
  host-value (types.Slice width) (host.bytes (Some a)) v f e =
      let it = item-there lens a f.1 in
      let there = lawful.arrays a it.0 it.1 in
      let same : span (record { store = host_array a; from = 0; count = length (unwrap_or (slice_get h.arrays a) []) }) ≡ v = cc (e) in
      let P : Value → Type 0 = λ v. IsOfType p shape (types.Slice width) v in
      let long : length (unwrap_or (slice_get h.arrays a) []) ≡ it.0 = ap (λ o. length (unwrap_or o [])) there.1 ∙ there.2 in
      let room : unwrap_or (slice_get lens a) 0 ≡ it.0 = ap (λ o. unwrap_or o 0) it.1 in
      let small = short a it.0 it.1 in
      let whole : IsOfType p shape (types.Slice width) (span (record { store = host_array a; from = 0; count = length (unwrap_or (slice_get h.arrays a) []) })) =
      record { few = rw long small; inside = omega (arith, long, room); takes = grind (arith, nat_tests, f.0) } in
      subst P same whole
  host-value (types.Slice width) arg v f e = absurd (cc (e))
  host-value ty arg v f e = absurd (cc (e))

  record Both (o : Option Value) (os : Option (List Value)) (vs : List Value) : Type 0 where
    v : Value
    rest : List Value
    first : o ≡ Some v
    others : os ≡ Some rest
    is : vs ≡ v ∷ rest

  both : (o : Option Value) (os : Option (List Value)) (vs : List Value) → cons_value o os ≡ Some vs → Both o os vs
  both None os vs e = absurd (cc (e))
  both (Some v) None vs e = absurd (cc (e))
  both (Some v) (Some rest) vs e = record { v = v; rest = rest; first = refl; others = refl; is = sym (cc (e)) }

  pub host-typed : (xs : List Variable) (args : List HostArg) (vs : List Value) → FitKinds buffers (length lens) (kinds_of xs) args → host_values h.arrays xs args ≡ Some vs → HaveTypes p shape xs vs
  host-typed [] [] vs f e = record { each = λ n ty i. absurd (cc (i)) }
  host-typed [] (arg ∷ args) vs f e = absurd f
  host-typed (x ∷ xs) [] vs f e = absurd f
  host-typed (x ∷ xs) (arg ∷ args) vs f e =
      let b : Both (host_value h.arrays x.ty arg) (host_values h.arrays xs args) vs = both (host_value h.arrays x.ty arg) (host_values h.arrays xs args) vs e in
      let first = host-value x.ty arg b.v f.0 b.first in
      let P : List Value → Type 0 = λ vs. HaveTypes p shape (x ∷ xs) vs in
      subst P (sym b.is) (joined b.v b.rest first (host-typed xs args b.rest f.1 b.others))
    where
      joined : (v : Value) (rest : List Value) → IsOfType p shape x.ty v → HaveTypes p shape xs rest → HaveTypes p shape (x ∷ xs) (v ∷ rest)
      joined v rest first others = record { each = each }
        where
          each : (n : ℕ) (ty : Ty) → variable_at (x ∷ xs) n ≡ Some ty → (w : Value) × (slice_get (v ∷ rest) n ≡ Some w) × IsOfType p shape ty w
          each zero ty i =
              let same : x.ty ≡ ty = cc (i) in
              let Q : Ty → Type 0 = λ ty. IsOfType p shape ty v in
              (v, refl, subst Q same first)
          each (suc n) ty i = others.each n ty i

  -- A buffer among the values is one that the arguments name.
  abbrev IsNamed : ℕ → List ℕ → Type 0
  IsNamed k [] = ⊥
  IsNamed k (n ∷ ns) = (n ≡ k) ⊎ IsNamed k ns

  further : (k : ℕ) (arg : HostArg) (args : List HostArg) → IsNamed k (named_buffers args) → IsNamed k (named_buffers (arg ∷ args))
  further k (host.num n) args i = i
  further k (host.flag b) args i = i
  further k (host.io None) args i = i
  further k (host.io (Some n)) args i = inr i
  further k (host.bytes a) args i = i

  one-named : (ty : Ty) (arg : HostArg) (args : List HostArg) (k : ℕ) → host_value h.arrays ty arg ≡ Some (buffer k) → arg ≡ host.io (Some k)
  one-named (types.Num width lo hi) (host.num n) args k e =
      let q = number-in lo hi n (buffer k) (nat_le lo n && nat_le n hi) refl e in
      absurd (cc (q.0))
  one-named (types.Num width lo hi) arg args k e = absurd (cc (e))
  one-named types.Flag (host.flag b) args k e = absurd (cc (e))
  one-named types.Flag arg args k e = absurd (cc (e))
  one-named types.Reader (host.io (Some n)) args k e = let same : n ≡ k = cc (e) in ap (λ n. host.io (Some n)) same
  one-named types.Reader (host.io None) args k e = absurd (cc (e))
  one-named types.Reader arg args k e = absurd (cc (e))
  one-named types.Writer (host.io (Some n)) args k e = let same : n ≡ k = cc (e) in ap (λ n. host.io (Some n)) same
  one-named types.Writer (host.io None) args k e = absurd (cc (e))
  one-named types.Writer arg args k e = absurd (cc (e))
  one-named (types.Slice width) (host.bytes None) args k e = absurd (cc (e))
  one-named (types.Slice width) (host.bytes (Some a)) args k e = absurd (cc (e))
  one-named (types.Slice width) arg args k e = absurd (cc (e))
  one-named ty arg args k e = absurd (cc (e))

  named : (xs : List Variable) (args : List HostArg) (vs : List Value) (i k : ℕ) → host_values h.arrays xs args ≡ Some vs → slice_get vs i ≡ Some (buffer k) → IsNamed k (named_buffers args)
  named [] [] vs i k e j =
      let same : [] ≡ vs = cc (e) in
      let P : List Value → Type 0 = λ vs. slice_get vs i ≡ Some (buffer k) in
      let none : slice_get [] i ≡ Some (buffer k) = subst P (sym same) j in
      absurd (cc (none))
  named [] (arg ∷ args) vs i k e j = absurd (cc (e))
  named (x ∷ xs) [] vs i k e j = absurd (cc (e))
  named (x ∷ xs) (arg ∷ args) vs i k e j =
      let b : Both (host_value h.arrays x.ty arg) (host_values h.arrays xs args) vs = both (host_value h.arrays x.ty arg) (host_values h.arrays xs args) vs e in
      let P : List Value → Type 0 = λ vs. slice_get vs i ≡ Some (buffer k) in
      by i b.v b.rest b.first (λ i j. named xs args b.rest i k b.others j) (subst P b.is j)
    where
      by : (i : ℕ) (v : Value) (rest : List Value) → host_value h.arrays x.ty arg ≡ Some v → ((i : ℕ) → slice_get rest i ≡ Some (buffer k) → IsNamed k (named_buffers args))
          → slice_get (v ∷ rest) i ≡ Some (buffer k) → IsNamed k (named_buffers (arg ∷ args))
      by zero v rest first others j =
          let same : v ≡ buffer k = cc (j) in
          let is = one-named x.ty arg args k (first ∙ ap (λ v. Some v) same) in
          let Q : HostArg → Type 0 = λ arg. IsNamed k (named_buffers (arg ∷ args)) in
          let mine : Q (host.io (Some k)) = inl refl in
          subst Q (sym is) mine
      by (suc i) v rest first others j = further k arg args (others i j)

  never-named : (k : ℕ) (ns : List ℕ) → All (λ other. k ≡ other → ⊥) ns → IsNamed k ns → ⊥
  never-named k [] h i = i
  never-named k (n ∷ ns) h (inl e) = All-head (λ other. k ≡ other → ⊥) n ns h (sym e)
  never-named k (n ∷ ns) h (inr i) = never-named k ns (All-tail (λ other. k ≡ other → ⊥) n ns h) i

  rest-distinct : (arg : HostArg) (args : List HostArg) → AreDistinct (named_buffers (arg ∷ args)) → AreDistinct (named_buffers args)
  rest-distinct (host.num n) args d = d
  rest-distinct (host.flag b) args d = d
  rest-distinct (host.io None) args d = d
  rest-distinct (host.io (Some n)) args d = d.1
  rest-distinct (host.bytes a) args d = d

  apart : (xs : List Variable) (args : List HostArg) (vs : List Value) → AreDistinct (named_buffers args) → host_values h.arrays xs args ≡ Some vs
      → (i j k : ℕ) → slice_get vs i ≡ Some (buffer k) → slice_get vs j ≡ Some (buffer k) → i ≡ j
  apart [] [] vs d e i j k a b =
      let same : [] ≡ vs = cc (e) in
      let P : List Value → Type 0 = λ vs. slice_get vs i ≡ Some (buffer k) in
      let none : slice_get [] i ≡ Some (buffer k) = subst P (sym same) a in
      absurd (cc (none))
  apart [] (arg ∷ args) vs d e i j k a b = absurd (cc (e))
  apart (x ∷ xs) [] vs d e i j k a b = absurd (cc (e))
  apart (x ∷ xs) (arg ∷ args) vs d e i j k a b =
      let c : Both (host_value h.arrays x.ty arg) (host_values h.arrays xs args) vs = both (host_value h.arrays x.ty arg) (host_values h.arrays xs args) vs e in
      let P : ℕ → List Value → Type 0 = λ i vs. slice_get vs i ≡ Some (buffer k) in
      by i j c.v c.rest c.first (λ i u. named xs args c.rest i k c.others u) (λ i j u v. apart xs args c.rest (rest-distinct arg args d) c.others i j k u v) (subst (P i) c.is a) (subst (P j) c.is b)
    where
      clash : (v : Value) → host_value h.arrays x.ty arg ≡ Some v → v ≡ buffer k → IsNamed k (named_buffers args) → ⊥
      clash v first same i =
          let is = one-named x.ty arg args k (first ∙ ap (λ v. Some v) same) in
          let Q : HostArg → Type 0 = λ arg. AreDistinct (named_buffers (arg ∷ args)) in
          let mine : Q (host.io (Some k)) = subst Q is d in
          never-named k (named_buffers args) mine.0 i

      by : (i j : ℕ) (v : Value) (rest : List Value) → host_value h.arrays x.ty arg ≡ Some v → ((i : ℕ) → slice_get rest i ≡ Some (buffer k) → IsNamed k (named_buffers args))
          → ((i j : ℕ) → slice_get rest i ≡ Some (buffer k) → slice_get rest j ≡ Some (buffer k) → i ≡ j) → slice_get (v ∷ rest) i ≡ Some (buffer k) → slice_get (v ∷ rest) j ≡ Some (buffer k) → i ≡ j
      by zero zero v rest first others again a b = refl
      by zero (suc j) v rest first others again a b = absurd (clash v first (cc (a)) (others j b))
      by (suc i) zero v rest first others again a b = absurd (clash v first (cc (b)) (others i a))
      by (suc i) (suc j) v rest first others again a b = ap suc (again i j a b)

  pub host-apart : (xs : List Variable) (args : List HostArg) (vs : List Value) → AreDistinct (named_buffers args) → host_values h.arrays xs args ≡ Some vs → AreApart vs
  host-apart xs args vs d e = record { buffers = λ a other k i j. apart xs args vs d e a other k i j }
