-- Names that are apart: a struct is the first of its name, and a method has each of its arguments once.
use Rattle.std.proofs.Common.{◌≡◌, ℕ, suc, ◌+◌, ◌<◌, Bool, true, false, ◌||◌, if◌then◌else◌, List, [], ◌∷◌, ◌++◌, map, length, Some, None, option_map, slice_get, nat_eq, refl, sym, ap, ◌∙◌, arith, length-append}
use Rattle.std.proofs.lemmas.List.Folds.{list_any-append}
use Rattle.std.proofs.lemmas.Option.{slice_get-map}
use Rattle.indexmap.specs.IndexSet.{insert_key, insert_all}
use Rattle.wf_text.specs.Precedence.{Decides}
use Rattle.wf_ast.specs.declared.numbers.TextId.{TextId}
use Rattle.wf_ast.specs.declared.parsed.Name.{Name}
use Rattle.wf_names_rules.specs.Declarations.{Variable, Structure, Method, Declared, is_spelt, struct_named}
use Rattle.wf_names_rules.specs.Meanings.{args_in}
use Rattle.graphs.specs.Graphs.{holds}
use Rattle.wf_names_rules.specs.NameRules as rules
use Rattle.wf_names_rules.specs.NameRules.{Breaks, by_declaration, declared_twice, IsRepeated, twice, variable_names}
use Rattle.graphs.proofs.NumberLemmas.{same_number, number_self}
use Rattle.wf_names_laws.proofs.ListLemmas.{position-first}

same-text : (a b : Name) → a.text.0 ≡ b.text.0 → a.text ≡ b.text
same-text a b e = let text : ℕ → TextId = λ n. record { 0 = n } in ap text e

-- No name of a list is that of an earlier one.
abbrev pub AreOnce : List Name → Type 0
AreOnce names = (later : Name) → IsRepeated names later → ⊥

name-first : {X : Type 0} (name_of : X → Name) (xs : List X) → AreOnce (map name_of xs) → (n : ℕ) (x : X) → slice_get xs n ≡ Some x
    → (i : ℕ) (y : X) → i < n → slice_get xs i ≡ Some y → is_spelt (name_of x).text.0 (name_of y) ≡ false
name-first name_of xs once n x e i y below f = by_test (is_spelt (name_of x).text.0 (name_of y)) refl
  where
    by_test : (t : Bool) → is_spelt (name_of x).text.0 (name_of y) ≡ t → t ≡ false
    by_test false h = refl
    by_test true h = absurd (once (name_of x) (record {
      first = i;
      second = n;
      earlier = name_of y;
      order = below;
      at_first = slice_get-map name_of xs i ∙ ap (option_map name_of) f;
      at_second = slice_get-map name_of xs n ∙ ap (option_map name_of) e;
      same = same-text (name_of y) (name_of x) (same_number (name_of y).text.0 (name_of x).text.0 h);
    }))

-- A struct is the one that its name means.
pub struct-first : (d : Declared) → Decides (Breaks d) None → (n : ℕ) (it : Structure) → slice_get d.structs n ≡ Some it → struct_named d it.name.text.0 ≡ Some n
struct-first d h n it e =
    let once : AreOnce (map (λ (x : Structure). x.name) d.structs) = λ later r. h (twice later) (by_declaration (twice later) (declared_twice (map (λ (x : Structure). x.name) d.structs) later rules.structs r)) in
    position-first (λ (x : Structure). is_spelt it.name.text.0 x.name) 0 d.structs n it e (number_self it.name.text.0) (name-first (λ (x : Structure). x.name) d.structs once n it e)
    ∙ (let same : 0 + n ≡ n = omega arith in ap (λ m. Some m) same)

-- The texts of names that are apart are as many, where each is kept once.
once-behind : (a : Name) (names : List Name) → AreOnce (a ∷ names) → AreOnce names
once-behind a names once later r =
    once later (record { first = suc r.first; second = suc r.second; earlier = r.earlier; order = omega (arith, r.order); at_first = r.at_first; at_second = r.at_second; same = r.same })

abbrev pub texts_of : List Name → List ℕ
texts_of names = map (λ (n : Name). n.text.0) names

pushed : (t : Bool) (seen : List ℕ) (a : ℕ) → t ≡ false → (if t then seen else seen ++ a ∷ []) ≡ seen ++ a ∷ []
pushed true seen a h = absurd (cc h)
pushed false seen a h = refl

neither-so : (x y : Bool) → x ≡ false → y ≡ false → (x || (y || false)) ≡ false
neither-so false false h k = refl
neither-so true y h k = absurd (cc h)
neither-so false true h k = absurd (cc k)

insert-all-long : (seen : List ℕ) (names : List Name) → AreOnce names → ((i : ℕ) (b : Name) → slice_get names i ≡ Some b → holds seen b.text.0 ≡ false)
    → length (insert_all nat_eq seen (texts_of names)) ≡ length seen + length names
insert-all-long seen [] once unseen = omega arith
insert-all-long seen (a ∷ names) once unseen =
    let now : insert_key nat_eq seen a.text.0 ≡ seen ++ a.text.0 ∷ [] = pushed (holds seen a.text.0) seen a.text.0 (unseen 0 a refl) in
    let rest : length (insert_all nat_eq (seen ++ a.text.0 ∷ []) (texts_of names)) ≡ length (seen ++ a.text.0 ∷ []) + length names =
    insert-all-long (seen ++ a.text.0 ∷ []) names (once-behind a names once) still in
    let long : length (seen ++ a.text.0 ∷ []) ≡ length seen + 1 = length-append seen (a.text.0 ∷ []) in
    ap (λ ks. length (insert_all nat_eq ks (texts_of names))) now ∙ rest ∙ (let e : length (seen ++ a.text.0 ∷ []) + length names ≡ length seen + suc (length names) = omega (arith, long) in e)
  where
    other : (i : ℕ) (b : Name) → slice_get names i ≡ Some b → (t : Bool) → nat_eq b.text.0 a.text.0 ≡ t → t ≡ false
    other i b e false h = refl
    other i b e true h =
        absurd (once b (record { first = 0; second = suc i; earlier = a; order = omega arith; at_first = refl; at_second = e; same = same-text a b (sym (same_number b.text.0 a.text.0 h)) }))

    still : (i : ℕ) (b : Name) → slice_get names i ≡ Some b → holds (seen ++ a.text.0 ∷ []) b.text.0 ≡ false
    still i b e =
        list_any-append (nat_eq b.text.0) seen (a.text.0 ∷ [])
        ∙ neither-so (holds seen b.text.0) (nat_eq b.text.0 a.text.0) (unseen (suc i) b e) (other i b e (nat_eq b.text.0 a.text.0) refl)

texts-same : (vs : List Variable) → texts_of (variable_names vs) ≡ map (λ (v : Variable). v.name.text.0) vs
texts-same [] = refl
texts-same (v ∷ vs) = ap (λ ts. v.name.text.0 ∷ ts) (texts-same vs)

names-long : (vs : List Variable) → length (variable_names vs) ≡ length vs
names-long [] = refl
names-long (v ∷ vs) = ap suc (names-long vs)

-- A method has as many arguments as names of arguments.
pub args-once : (d : Declared) → Decides (Breaks d) None → (n : ℕ) (m : Method) → slice_get d.methods n ≡ Some m → length (args_in (Some m)) ≡ length m.args
args-once d h n m e =
    let once : AreOnce (variable_names m.args) = λ later r. h (twice later) (by_declaration (twice later) (declared_twice (variable_names m.args) later (rules.args m (n, e)) r)) in
    ap (λ ts. length (insert_all nat_eq [] ts)) (sym (texts-same m.args)) ∙ insert-all-long [] (variable_names m.args) once (λ i b f. refl)
    ∙ (let all : length (variable_names m.args) ≡ length m.args = names-long m.args in let sum : 0 + length (variable_names m.args) ≡ length m.args = omega (arith, all) in sum)
