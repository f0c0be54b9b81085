-- Plain names that differ are in order in a package's text.
use Rattle.std.proofs.Common.{◌≡◌, ◌⊎◌, inl, inr, ℕ, zero, suc, ◌<◌, ◌^◌, Bool, true, false, not, ◌&&◌, ◌||◌, List, [], ◌∷◌, ◌++◌, length, map, Option, Some, None, nat_eq, nat_lt, slice_get, refl, sym, ap, ◌∙◌, subst, arith}
use Rattle.std.specs.Prelude.{bytes_eq, codes}
use Rattle.std.specs.List.{list_all, AllByRecursion}
use Rattle.std.proofs.lemmas.Bool.Decides.{nat_tests}
use Rattle.std.proofs.lemmas.List.{append_cancel_right}
use Rattle.std.proofs.lemmas.Slice.Eq.{bytes_eq-Decides}
use Rattle.wf_ast.specs.ParsedParts.{AreDistinct}
use Rattle.wf_ast.specs.declared.typed_nodes.TypedNodes.{TypedNodes}
use Rattle.wf_ast.specs.TypedInvariant.{IsTyped}
use Rattle.wf_ast.specs.TypedPackage.{Variable, StructTree, MethodTree, PackageTree, package_of}
use Rattle.wf_ast.specs.WellTyped.{well_typed}
use Rattle.wf_ast.proofs.Arena.{both_true}
use Rattle.wf_tokens.specs.Runs.{is_between, is_run}
use Rattle.wf_names_rules.specs.Reserved.{is_underscore, begins_with_underscore, ends_behind, ends_with_underscore, doubles_behind, has_double_underscore, is_reserved, is_initialize}
use Rattle.c_text.specs.CSpelling.{is_word_byte}
use Rattle.c_meaning.specs.UnitForm.{is_among, all_distinct}
use Rattle.wf_exprs.specs.Names.{struct_called}
use Rattle.wf_typed_laws.specs.PlainNames.{IsPlain, ArePlain, HasPlainFields, HasPlainVariables}
use Rattle.wf_lower_laws.specs.NameLaw.{are_named}
use Rattle.wf_lower_laws.specs.ItemLaw.{is_clean, method_called, method_names, methods_called}
use Rattle.wf_lower_laws.proofs.Apart.{has, apart, neither, left_or, right_or, not_true, same_number}
use Rattle.wf_lower_laws.proofs.Names.{either_true, both_hold}
use Rattle.wf_lower_laws.proofs.ItemNames.{one_seam}
use Rattle.wf_lower_laws.proofs.JumpLaw.{all_methods, method_rules}
use Rattle.wf_lower_laws.proofs.Orders.{methods_ordered, structs_ordered}
use Rattle.wf_lower_formed_laws.specs.NamesKept.{IsNamed, NamesAreKept}

-- ---- lists of names

all_at : {X : Type 0} (P : X → Type 0) (xs : List X) → AllByRecursion P xs → (i : ℕ) (x : X) → slice_get xs i ≡ Some x → P x
all_at P [] a i x e = absurd (cc e)
all_at P (y ∷ xs) a zero x e = let same : y ≡ x = cc e in subst P same a.0
all_at P (y ∷ xs) a (suc i) x e = all_at P xs a.1 i x e

among_at : (ls : List (List ℕ)) (l : List ℕ) → is_among ls l ≡ true → (i : ℕ) × (slice_get ls i ≡ Some l)
among_at [] l a = absurd (cc a)
among_at (x ∷ ls) l a = by (either_true (bytes_eq l x) (is_among ls l) a) (among_at ls l)
  where
    by : (bytes_eq l x ≡ true) ⊎ (is_among ls l ≡ true) → (is_among ls l ≡ true → (i : ℕ) × (slice_get ls i ≡ Some l)) → (i : ℕ) × (slice_get (x ∷ ls) i ≡ Some l)
    by (inl t) more = (0, ap Some (sym ((bytes_eq-Decides l x).0 t)))
    by (inr t) more = let k = more t in (suc k.0, k.1)

pub distinct_names : (ls : List (List ℕ)) → AreDistinct ls → all_distinct ls ≡ true
distinct_names [] d = refl
distinct_names (x ∷ ls) d = rw (alone (is_among ls x) refl, distinct_names ls (λ i j t e g. cc (d (suc i) (suc j) t e g))) refl
  where
    alone : (b : Bool) → is_among ls x ≡ b → is_among ls x ≡ false
    alone false a = a
    alone true a =
        let k = among_at ls x a in
        let none : 0 ≡ suc k.0 = d 0 (suc k.0) x refl k.1 in
        absurd (omega (arith, none))

-- ---- plain names

word_bytes : (text : List ℕ) → list_all is_run text ≡ true → list_all is_word_byte text ≡ true
word_bytes [] h = refl
word_bytes (b ∷ text) h =
    let q = both_true (is_run b) (list_all is_run text) h in
    both_hold (is_word_byte b) (list_all is_word_byte text) (one (is_between 97 122 b) (is_between 65 90 b) (nat_eq b 95) (is_between 48 57 b) q.0) (word_bytes text q.1)
  where
    one : (x y z w : Bool) → ((x || y || z) || w) ≡ true → ((x || (y || z)) || w) ≡ true
    one true y z w h = refl
    one false true z w h = refl
    one false false true w h = refl
    one false false false w h = h

clean_by : (last : Bool) (text : List ℕ) → doubles_behind last text ≡ false → ends_behind last text ≡ false → is_clean text ≡ true
clean_by last [] h k = refl
clean_by last (a ∷ []) h k = rw k refl
clean_by last (a ∷ b ∷ text) h k =
    let q = (neither (last && is_underscore a) (doubles_behind (is_underscore a) (b ∷ text)) h).1 in
    let r = (neither (is_underscore a && is_underscore b) (doubles_behind (is_underscore b) text) q).0 in
    both_hold (not (nat_eq a 95 && nat_eq b 95)) (is_clean (b ∷ text)) (rw r refl) (clean_by (is_underscore a) (b ∷ text) q k)

pub plain_clean : (text : List ℕ) → IsPlain text → is_clean text ≡ true
unfolding is_reserved
plain_clean text h =
    let q = (neither (begins_with_underscore text) _ h.free).1 in
    let r = neither (ends_with_underscore text) _ q in
    clean_by false text (neither (has_double_underscore text) _ r.1).0 r.0

plain_words : (xs : List Variable) → ArePlain xs → list_all (λ x. list_all is_word_byte x.name) xs ≡ true
plain_words [] a = refl
plain_words (x ∷ xs) a = both_hold (list_all is_word_byte x.name) _ (word_bytes x.name a.0.spelt.run) (plain_words xs a.1)

variables_kept : (ms : List MethodTree) → AllByRecursion HasPlainVariables ms → AllByRecursion (λ m. AreDistinct (map (λ x. x.name) m.args)) ms → AllByRecursion (λ m. AreDistinct (map (λ x. x.name) m.locals)) ms
    → list_all (λ m. are_named m.args && are_named m.locals) ms ≡ true
variables_kept [] p a l = refl
variables_kept (m ∷ ms) p a l =
    both_hold (are_named m.args && are_named m.locals) _
    (both_hold (are_named m.args) (are_named m.locals) (both_hold (all_distinct (map (λ x. x.name) m.args)) _ (distinct_names (map (λ x. x.name) m.args) a.0) (plain_words m.args p.0.args))
    (both_hold (all_distinct (map (λ x. x.name) m.locals)) _ (distinct_names (map (λ x. x.name) m.locals) l.0) (plain_words m.locals p.0.locals)))
    (variables_kept ms p.1 a.1 l.1)

-- ---- items

module _ (p : PackageTree) (h : IsNamed p) (well : well_typed p ≡ true) where
  record StructAt (s : ℕ) : Type 0 where
    it : StructTree
    there : slice_get p.structs s ≡ Some it
    called : struct_called p s ≡ it.name

  struct_at : (s : ℕ) → s < length p.structs → StructAt s
  struct_at s l = by (slice_get p.structs s) refl
    where
      none_there : (ss : List StructTree) (s : ℕ) → s < length ss → slice_get ss s ≡ None → ⊥
      none_there [] s l e = absurd (omega (arith, l))
      none_there (x ∷ ss) zero l e = cc e
      none_there (x ∷ ss) (suc s) l e = none_there ss s (omega (arith, l)) e

      by : (o : Option StructTree) → slice_get p.structs s ≡ o → StructAt s
      by (Some it) e = record { it = it; there = e; called = rw e refl }
      by None e = absurd (none_there p.structs s l e)

  name_at : (ss : List StructTree) (s : ℕ) (it : StructTree) → slice_get ss s ≡ Some it → slice_get (map (λ (s : StructTree). s.name) ss) s ≡ Some it.name
  name_at [] s it e = absurd (cc e)
  name_at (x ∷ ss) zero it e = ap (λ (o : StructTree). Some o.name) (some_same e)
    where
      some_same : Some x ≡ Some it → x ≡ it
      some_same e = cc e
  name_at (x ∷ ss) (suc s) it e = name_at ss s it e

  one_struct : (s t : ℕ) → s < length p.structs → t < length p.structs → struct_called p s ≡ struct_called p t → s ≡ t
  one_struct s t l m e =
      let a = struct_at s l in
      let b = struct_at t m in
      let same : a.it.name ≡ b.it.name = sym a.called ∙ (e ∙ b.called) in
      let P : List ℕ → Type 0 = λ z. slice_get (map (λ (s : StructTree). s.name) p.structs) s ≡ Some z in
      h.apart.structs s t b.it.name (subst P same (name_at p.structs s a.it a.there)) (name_at p.structs t b.it b.there)

  struct_clean : (s : ℕ) → s < length p.structs → is_clean (struct_called p s) ≡ true
  struct_clean s l =
      let a = struct_at s l in
      let P : List ℕ → Type 0 = λ z. is_clean z ≡ true in
      subst P (sym a.called) (plain_clean a.it.name (all_at HasPlainFields p.structs h.plain.structs s a.it a.there).name)

  structs_clean : (os : List ℕ) → ((a : ℕ) → has os a ≡ true → a < length p.structs) → list_all (λ s. is_clean (struct_called p s)) os ≡ true
  structs_clean [] b = refl
  structs_clean (s ∷ os) b =
      both_hold (is_clean (struct_called p s)) _ (struct_clean s (b s (left_or (nat_eq s s) (has os s) (same_number s)))) (structs_clean os (λ a k. b a (right_or (nat_eq a s) (has os a) k)))

  called_apart : (os : List ℕ) (s : ℕ) → s < length p.structs → ((a : ℕ) → has os a ≡ true → a < length p.structs) → has os s ≡ false → is_among (map (struct_called p) os) (struct_called p s) ≡ false
  called_apart [] s l b n = refl
  called_apart (t ∷ os) s l b n =
      let q = neither (nat_eq s t) (has os s) n in
      rw (other (bytes_eq (struct_called p s) (struct_called p t)) refl q.0, called_apart os s l (λ a k. b a (right_or (nat_eq a t) (has os a) k)) q.1) refl
    where
      other : (c : Bool) → bytes_eq (struct_called p s) (struct_called p t) ≡ c → nat_eq s t ≡ false → bytes_eq (struct_called p s) (struct_called p t) ≡ false
      other false e m = e
      other true e m =
          let same : s ≡ t = one_struct s t l (b t (left_or (nat_eq t t) (has os t) (same_number t))) ((bytes_eq-Decides (struct_called p s) (struct_called p t)).0 e) in
          absurd (grind (arith, nat_tests, m, same))

  structs_distinct : (os : List ℕ) → apart os ≡ true → ((a : ℕ) → has os a ≡ true → a < length p.structs) → all_distinct (map (struct_called p) os) ≡ true
  structs_distinct [] d b = refl
  structs_distinct (s ∷ os) d b =
      let q = both_true (not (has os s)) (apart os) d in
      rw (called_apart os s (b s (left_or (nat_eq s s) (has os s) (same_number s))) (λ a k. b a (right_or (nat_eq a s) (has os a) k)) (not_true (has os s) q.0), structs_distinct os q.1 (λ a k. b a (right_or (nat_eq a s) (has os a) k))) refl

  -- Methods.
  owner_below : (n : ℕ) (m : MethodTree) → slice_get p.methods n ≡ Some m → m.of < length p.structs
  owner_below n m e =
      let w = method_rules p p.methods n m (all_methods p well) e in
      let l : nat_lt m.of (length p.structs) ≡ true = (both_true (nat_lt m.of (length p.structs)) _ w).0 in
      grind (arith, nat_tests, l)

  one_method : (i j : ℕ) (m n : MethodTree) → slice_get p.methods i ≡ Some m → slice_get p.methods j ≡ Some n → method_called p m ≡ method_called p n → i ≡ j
  one_method i j m n e g same =
      let l = owner_below i m e in
      let k = owner_below j n g in
      let names : m.name ≡ n.name = one_seam (struct_called p m.of) m.name (struct_called p n.of) n.name (struct_clean m.of l) (struct_clean n.of k) same in
      let P : List ℕ → Type 0 = λ z. struct_called p m.of ++ (codes "__" ++ z) ≡ struct_called p n.of ++ (codes "__" ++ n.name) in
      let owners : struct_called p m.of ≡ struct_called p n.of = append_cancel_right (struct_called p m.of) (struct_called p n.of) (codes "__" ++ n.name) (subst P names same) in
      h.apart.methods i j m n e g (one_struct m.of n.of l k owners) names

  methods_alone : (ns : List ℕ) (i : ℕ) (m : MethodTree) → slice_get p.methods i ≡ Some m → has ns i ≡ false → is_among (methods_called p ns) (method_called p m) ≡ false
  methods_alone [] i m e k = refl
  methods_alone (n ∷ ns) i m e k =
      let q = neither (nat_eq i n) (has ns i) k in
      by (slice_get p.methods n) refl q.0 (methods_alone ns i m e q.1)
    where
      by : (o : Option MethodTree) → slice_get p.methods n ≡ o → nat_eq i n ≡ false → is_among (methods_called p ns) (method_called p m) ≡ false → is_among (method_names p o ++ methods_called p ns) (method_called p m) ≡ false
      by None g t more = more
      by (Some x) g t more = rw (other (bytes_eq (method_called p m) (method_called p x)) refl, more) refl
        where
          other : (c : Bool) → bytes_eq (method_called p m) (method_called p x) ≡ c → bytes_eq (method_called p m) (method_called p x) ≡ false
          other false s = s
          other true s =
              let same : i ≡ n = one_method i n m x e g ((bytes_eq-Decides (method_called p m) (method_called p x)).0 s) in
              absurd (grind (arith, nat_tests, t, same))

  methods_apart : (ns : List ℕ) → apart ns ≡ true → all_distinct (methods_called p ns) ≡ true
  methods_apart [] d = refl
  methods_apart (n ∷ ns) d =
      let q = both_true (not (has ns n)) (apart ns) d in
      by (slice_get p.methods n) refl (not_true (has ns n) q.0) (methods_apart ns q.1)
    where
      by : (o : Option MethodTree) → slice_get p.methods n ≡ o → has ns n ≡ false → all_distinct (methods_called p ns) ≡ true → all_distinct (method_names p o ++ methods_called p ns) ≡ true
      by None g k more = more
      by (Some m) g k more = rw (methods_alone ns n m g k, more) refl

fields_apart : (ss : List StructTree) → AllByRecursion (λ s. AreDistinct (map (λ x. x.name) s.fields)) ss → list_all (λ s. all_distinct (map (λ x. x.name) s.fields)) ss ≡ true
fields_apart [] a = refl
fields_apart (s ∷ ss) a = both_hold (all_distinct (map (λ x. x.name) s.fields)) _ (distinct_names (map (λ x. x.name) s.fields) a.0) (fields_apart ss a.1)

methods_clean : (ms : List MethodTree) → AllByRecursion HasPlainVariables ms → list_all (λ m. is_clean m.name) ms ≡ true
methods_clean [] a = refl
methods_clean (m ∷ ms) a = both_hold (is_clean m.name) _ (plain_clean m.name a.0.name) (methods_clean ms a.1)

few_of : (nodes : TypedNodes) → IsTyped nodes → length (package_of nodes).statuses < 2 ^ 64
unfolding package_of
few_of nodes typed = omega (arith, typed.few_statuses)

pub names_are_kept : NamesAreKept
names_are_kept nodes typed h =
    let p = package_of nodes in
    let o = methods_ordered p typed.rules in
    let q = structs_ordered p typed.rules in
    record {
      variables = variables_kept p.methods h.plain.methods h.apart.args h.apart.locals;
      items = record {
        package_name = h.package_name;
        structs = structs_distinct p h typed.rules p.struct_order q.each.once q.each.below;
        clean = structs_clean p h typed.rules p.struct_order q.each.below;
        methods = methods_apart p h typed.rules p.order o.each.once;
        owners = λ n m e. (struct_clean p h typed.rules m.of (owner_below p h typed.rules n m e), all_at (λ m. is_initialize m.name ≡ false) p.methods h.apart.initialize n m e);
        few = few_of nodes typed;
      };
      fields = record { fields = fields_apart p.structs h.apart.fields; methods = h.apart.methods; clean = methods_clean p.methods h.plain.methods };
    }
