-- What is given to a call for each of the arguments that its method declares.
use Rattle.std.proofs.Common.{◌≡◌, ℕ, suc, Bool, true, false, cond, not, ◌||◌, if◌then◌else◌, List, [], ◌∷◌, ◌++◌, map, Option, Some, None, slice_get, nat_eq, refl, sym, ap, ◌∙◌, subst, arith, append_assoc}
use Rattle.std.specs.List.{AllByRecursion, find, list_any}
use Rattle.std.specs.Str.{bytes_eq}
use Rattle.std.proofs.lemmas.Bool.Decides.{nat_tests}
use Rattle.std.proofs.lemmas.Slice.Eq.{bytes_eq-Decides}
use Rattle.std.proofs.lemmas.List.{append-nil}
use Rattle.std.proofs.lemmas.List.Folds.{list_any-append}
use Rattle.indexmap.specs.IndexSet.{insert_key, insert_all}
use Rattle.wf_base.specs.declared.base_methods.BaseSig.{BaseSig}
use Rattle.wf_base.specs.declared.base_methods.BaseSig.TheVariants as sigs
use Rattle.wf_base.specs.BaseTable.{row_of}
use Rattle.wf_ast.specs.declared.parsed.Name.{Name}
use Rattle.wf_ast.specs.ParsedParts.{AreDistinct}
use Rattle.wf_ast.specs.ParsedTree as parsed
use Rattle.wf_ast.specs.ParsedTree.{GivenTrees}
use Rattle.wf_names_rules.specs.Declarations.{Variable, Method, Declared, text_of, bytes_in}
use Rattle.wf_names_rules.specs.NameRules.{IsRepeated}
use Rattle.wf_names_rules.specs.Meanings.{GivenValue, given_values, args_in}
use Rattle.wf_names_rules.specs.Uses.{Scope}
use Rattle.graphs.specs.Graphs.{holds}
use Rattle.graphs.proofs.NumberLemmas.{same_number}
use Rattle.wf_names_resolve.specs.Standing.{Standing, standing_at}
use Rattle.wf_names_resolve.specs.Resolved.{NamedGiven, with_arg, args_named, args_spelt, resolved_expr, resolved_given}
use Rattle.wf_names_scope_laws.specs.Scoping.{HasOne, IsTheOne, IsCalled, IsVariableCalled}
use Rattle.wf_names_scope_laws.specs.ResolvedExprs.{AreAllNamed, AreAllWanted, IsGivenFor, IsGivenUnder, ResolvesExpr, ResolvesNamed, ResolvesSpelt, none_named, one_named, none_spelt, one_spelt}
use Rattle.wf_names_scope_laws.proofs.Apart.{AreOnce, name-once}

-- ---- the names of a method's arguments, each once, are those of its arguments

abbrev pub names_of : List Variable → List ℕ
names_of vs = map (λ v. v.name.text.0) vs

once-behind : {X : Type 0} (P : X → Type 0) (x : X) (xs : List X) → AreOnce P (x ∷ xs) → AreOnce P xs
once-behind P x xs once i j y z e f p q = let same = once (suc i) (suc j) y z e f p q in omega (arith, same)

pushed : (t : Bool) (seen : List ℕ) (a : ℕ) → t ≡ false → (if t then seen else seen ++ a ∷ []) ≡ seen ++ a ∷ []
pushed true seen a h = absurd (cc h)
pushed false seen a h = refl

neither-so : (x y : Bool) → x ≡ false → y ≡ false → (x || (y || false)) ≡ false
neither-so false false h k = refl
neither-so true y h k = absurd (cc h)
neither-so false true h k = absurd (cc k)

insert-same : (seen : List ℕ) (vs : List Variable) → ((text : ℕ) → AreOnce (IsVariableCalled text) vs) → ((i : ℕ) (v : Variable) → slice_get vs i ≡ Some v → holds seen v.name.text.0 ≡ false)
    → insert_all nat_eq seen (names_of vs) ≡ seen ++ names_of vs
insert-same seen [] once unseen = sym (append-nil seen)
insert-same seen (a ∷ vs) once unseen =
    let now : insert_key nat_eq seen a.name.text.0 ≡ seen ++ a.name.text.0 ∷ [] = pushed (holds seen a.name.text.0) seen a.name.text.0 (unseen 0 a refl) in
    let rest = insert-same (seen ++ a.name.text.0 ∷ []) vs (λ text. once-behind (IsVariableCalled text) a vs (once text)) still in
    ap (λ ks. insert_all nat_eq ks (names_of vs)) now ∙ rest ∙ append_assoc seen (a.name.text.0 ∷ []) (names_of vs)
  where
    other : (i : ℕ) (b : Variable) → slice_get vs i ≡ Some b → (t : Bool) → nat_eq b.name.text.0 a.name.text.0 ≡ t → t ≡ false
    other i b e false h = refl
    other i b e true h = let same = once a.name.text.0 0 (suc i) a b refl e refl (same_number b.name.text.0 a.name.text.0 h) in absurd (omega (arith, same))

    still : (i : ℕ) (b : Variable) → slice_get vs i ≡ Some b → holds (seen ++ a.name.text.0 ∷ []) b.name.text.0 ≡ false
    still i b e =
        list_any-append (nat_eq b.name.text.0) seen (a.name.text.0 ∷ [])
        ∙ neither-so (holds seen b.name.text.0) (nat_eq b.name.text.0 a.name.text.0) (unseen (suc i) b e) (other i b e (nat_eq b.name.text.0 a.name.text.0) refl)

pub args-same : (d : Declared) (n : ℕ) (m : Method) → slice_get d.methods n ≡ Some m → ((text : ℕ) → AreOnce (IsVariableCalled text) m.args) → args_in (slice_get d.methods n) ≡ names_of m.args
args-same d n m is once = ap args_in is ∙ insert-same [] m.args once (λ i v e. refl)

-- ---- what is found under a name

abbrev pub texts_given : GivenTrees → List ℕ
texts_given given = map (λ (g : GivenValue). g.name.text.0) (given_values given)

abbrev resolved_value : Standing → GivenValue → NamedGiven
resolved_value k g = record { name = g.name; value = resolved_expr k g.value }

record FoundGiven (k : Standing) (given : GivenTrees) (p : ℕ → Bool) : Type 0 where
  i : ℕ
  g : GivenValue
  there : slice_get (given_values given) i ≡ Some g
  passes : p g.name.text.0 ≡ true
  found : find (λ (x : NamedGiven). p x.name.text.0) (resolved_given k given) ≡ Some (resolved_value k g)

find-given : (k : Standing) (p q : ℕ → Bool) → ((text : ℕ) → q text ≡ p text) → (given : GivenTrees) → list_any q (texts_given given) ≡ true → FoundGiven k given p
find-given k p q same parsed.no_given h = absurd (cc h)
find-given k p q same (parsed.more_given name value others) h = by_test (p name.text.0) refl (λ a. find-given k p q same others a) (ap (λ t. t || list_any q (texts_given others)) (sym (same name.text.0)) ∙ h)
  where
    by_test : (t : Bool) → p name.text.0 ≡ t → (list_any q (texts_given others) ≡ true → FoundGiven k others p) → (t || list_any q (texts_given others)) ≡ true → FoundGiven k (parsed.more_given name value others) p
    by_test true e more a = record {
      i = 0;
      g = record { name = name; value = value };
      there = refl;
      passes = e;
      found = ap (λ t. cond t (Some (record { name = name; value = resolved_expr k value })) (find (λ (x : NamedGiven). p x.name.text.0) (resolved_given k others))) e;
    }
    by_test false e more a =
        let r = more a in
        record {
          i = suc r.i;
          g = r.g;
          there = r.there;
          passes = r.passes;
          found = ap (λ t. cond t (Some (record { name = name; value = resolved_expr k value })) (find (λ (x : NamedGiven). p x.name.text.0) (resolved_given k others))) e ∙ r.found;
        }

neither : (x y : Bool) → (not x || y) ≡ false → (x ≡ true) × (y ≡ false)
neither true y h = (refl, h)
neither false y h = absurd (cc h)

numbers-turned : (a b : ℕ) → nat_eq a b ≡ nat_eq b a
numbers-turned a b = grind (arith, nat_tests)

-- Every value that is given is resolved.
abbrev pub AreResolved : Declared → Scope → GivenTrees → Type 0
AreResolved d scope given = (i : ℕ) (g : GivenValue) → slice_get (given_values given) i ≡ Some g → ResolvesExpr d scope g.value (resolved_expr (standing_at d scope) g.value)

-- Names that are given once.
pub given-once : (given : GivenTrees) → ((later : Name) → IsRepeated (map (λ (g : GivenValue). g.name) (given_values given)) later → ⊥) → (text : ℕ) → AreOnce (λ (g : GivenValue). IsCalled text g.name) (given_values given)
given-once given none text = name-once (λ (g : GivenValue). g.name) (given_values given) none text

-- Nothing else is given.
any-there : {X Y : Type 0} (f : Y → X) (p : X → Bool) (P : Y → Type 0) → ((y : Y) → p (f y) ≡ true → P y) → (ys : List Y) → list_any p (map f ys) ≡ true → HasOne P ys
any-there f p P sound [] h = absurd (cc h)
any-there f p P sound (y ∷ ys) h = by_test (p (f y)) refl (λ k. any-there f p P sound ys k) h
  where
    by_test : (t : Bool) → p (f y) ≡ t → (list_any p (map f ys) ≡ true → HasOne P ys) → (t || list_any p (map f ys)) ≡ true → HasOne P (y ∷ ys)
    by_test true e more k = record { n = 0; item = y; there = refl; fits = sound y e }
    by_test false e more k = let r = more k in record { n = suc r.n; item = r.item; there = r.there; fits = r.fits }

pub all-wanted : (vs : List Variable) (given : GivenTrees) → ((i : ℕ) (g : GivenValue) → slice_get (given_values given) i ≡ Some g → list_any (nat_eq g.name.text.0) (names_of vs) ≡ true) → AreAllWanted vs given
all-wanted vs given wanted i g e = any-there (λ (v : Variable). v.name.text.0) (nat_eq g.name.text.0) (λ v. IsGivenFor v g) (λ v p. same_number g.name.text.0 v.name.text.0 p) vs (wanted i g e)

list-same : (names : List (List ℕ)) → map (λ n. n) names ≡ names
list-same [] = refl
list-same (n ∷ ns) = ap (λ zs. n ∷ zs) (list-same ns)

pub all-named : (d : Declared) (names : List (List ℕ)) (given : GivenTrees)
    → ((i : ℕ) (g : GivenValue) → slice_get (given_values given) i ≡ Some g → list_any (λ name. bytes_eq name (text_of d g.name.text.0)) names ≡ true) → AreAllNamed d names given
all-named d names given wanted i g e =
    let test : List ℕ → Bool = λ name. bytes_eq name (text_of d g.name.text.0) in
    any-there (λ (name : List ℕ). name) test (λ name. IsGivenUnder d name g) (λ name p. sym ((bytes_eq-Decides name (text_of d g.name.text.0)).0 p)) names
    (ap (λ zs. list_any test zs) (list-same names) ∙ wanted i g e)

module _ (d : Declared) (scope : Scope) (given : GivenTrees) (once : (text : ℕ) → AreOnce (λ (g : GivenValue). IsCalled text g.name) (given_values given)) (all : AreResolved d scope given) where
  pub named-resolved : (vs : List Variable) → list_any (λ text. not (list_any (nat_eq text) (texts_given given))) (names_of vs) ≡ false
      → ResolvesNamed d scope given vs (args_named (resolved_given (standing_at d scope) given) (names_of vs))
  named-resolved [] h = none_named given
  named-resolved (v ∷ vs) h =
      let k = standing_at d scope in
      let text = v.name.text.0 in
      let r = neither (list_any (nat_eq text) (texts_given given)) (list_any (λ t. not (list_any (nat_eq t) (texts_given given))) (names_of vs)) h in
      let f = find-given k (λ t. nat_eq t text) (nat_eq text) (λ t. numbers-turned text t) given r.0 in
      let others = args_named (resolved_given k given) (names_of vs) in
      let P : Option NamedGiven → Type 0 = λ o. ResolvesNamed d scope given (v ∷ vs) (with_arg o others) in
      let one : IsTheOne (IsGivenFor v) (given_values given) f.i f.g = record {
        there = f.there;
        fits = same_number f.g.name.text.0 text f.passes;
        only = λ i y e q. once text i f.i y f.g e f.there q (same_number f.g.name.text.0 text f.passes);
      } in
      subst P (sym f.found) (one_named given v vs f.i f.g (resolved_expr k f.g.value) others one (all f.i f.g f.there) (named-resolved vs r.1))

  -- Bytes that are some are those of one text.
  bytes-there : (texts : List (List ℕ)) (i : ℕ) (name : List ℕ) → (name ≡ [] → ⊥) → bytes_in (slice_get texts i) ≡ name → slice_get texts i ≡ Some name
  bytes-there texts i name some e = by (slice_get texts i) e
    where
      by : (o : Option (List ℕ)) → bytes_in o ≡ name → o ≡ Some name
      by None k = absurd (some (sym k))
      by (Some bytes) k = ap (λ b. Some b) k

  module _ (distinct : AreDistinct d.texts) where
    spelt-once : (name : List ℕ) → (name ≡ [] → ⊥) → AreOnce (IsGivenUnder d name) (given_values given)
    spelt-once name some i j x y e f p q =
        let same : y.name.text.0 ≡ x.name.text.0 = distinct y.name.text.0 x.name.text.0 name (bytes-there d.texts y.name.text.0 name some q) (bytes-there d.texts x.name.text.0 name some p) in
        once x.name.text.0 i j x y e f refl same

    pub spelt-resolved : (names : List (List ℕ)) → AllByRecursion (λ (name : List ℕ). name ≡ [] → ⊥) names → list_any (λ name. not (list_any (λ text. bytes_eq name (text_of d text)) (texts_given given))) names ≡ false
        → ResolvesSpelt d scope given names (args_spelt (text_of d) (resolved_given (standing_at d scope) given) names)
    spelt-resolved [] some h = none_spelt given
    spelt-resolved (name ∷ names) some h =
        let k = standing_at d scope in
        let r = neither (list_any (λ text. bytes_eq name (text_of d text)) (texts_given given)) (list_any (λ n. not (list_any (λ text. bytes_eq n (text_of d text)) (texts_given given))) names) h in
        let f = find-given k (λ text. bytes_eq name (text_of d text)) (λ text. bytes_eq name (text_of d text)) (λ text. refl) given r.0 in
        let others = args_spelt (text_of d) (resolved_given k given) names in
        let P : Option NamedGiven → Type 0 = λ o. ResolvesSpelt d scope given (name ∷ names) (with_arg o others) in
        let fits : text_of d f.g.name.text.0 ≡ name = sym ((bytes_eq-Decides name (text_of d f.g.name.text.0)).0 f.passes) in
        let one : IsTheOne (IsGivenUnder d name) (given_values given) f.i f.g = record {
          there = f.there;
          fits = fits;
          only = λ i y e q. spelt-once name some.0 i f.i y f.g e f.there q fits;
        } in
        subst P (sym f.found) (one_spelt given name names f.i f.g (resolved_expr k f.g.value) others one (all f.i f.g f.there) (spelt-resolved names some.1 r.1))

-- The arguments of base methods have names.
abbrev pub AreThere : List (List ℕ) → Type 0
AreThere names = AllByRecursion (λ (name : List ℕ). name ≡ [] → ⊥) names

pub base-args-there : (sig : BaseSig) → AreThere (map (λ arg. arg.0) (row_of sig).args)
base-args-there sigs.ReaderLength = tt
base-args-there sigs.ReaderIsClosed = tt
base-args-there sigs.ReaderPosition = tt
base-args-there (sigs.Read form) = tt
base-args-there sigs.Skip = ((λ e. cc e), tt)
base-args-there (sigs.Peek form) = tt
base-args-there sigs.SkipFast = ((λ e. cc e), ((λ e. cc e), tt))
base-args-there sigs.WriterLength = tt
base-args-there sigs.WriterPosition = tt
base-args-there sigs.Write = ((λ e. cc e), tt)
base-args-there sigs.WriteFast = ((λ e. cc e), tt)
base-args-there sigs.WriterCopy = ((λ e. cc e), tt)
base-args-there (sigs.SliceCopy width) = ((λ e. cc e), tt)
base-args-there (sigs.SliceLength width) = tt
base-args-there (sigs.ArrayLength width) = tt
base-args-there sigs.IsOk = tt
base-args-there sigs.IsNote = tt
base-args-there sigs.IsSuspension = tt
base-args-there sigs.IsError = tt
