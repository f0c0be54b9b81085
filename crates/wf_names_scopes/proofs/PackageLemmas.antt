-- Tables of a package that grow by one declaration at a time.
use Rattle.std.proofs.Common.{◌≡◌, ℕ, zero, suc, ◌+◌, ◌≤◌, Bool, true, false, not, cond, ◌&&◌, ◌||◌, List, [], ◌∷◌, ◌++◌, map, length, take, slice_get, Option, Some, None, is_some, nat_eq, Result, Ok, Err, OnOk, refl, sym, ap, ◌∙◌, subst, append_assoc, append-nil, length-append, arith, take_all, Vec, vec_len}
use Rattle.std.specs.Option.{option_or}
use Rattle.std.specs.List.{find, position_from, list_any}
use Rattle.wf_text.specs.declared.faults.NoMemory.{NoMemory}
use Rattle.wf_text.specs.declared.place.Place.{Place}
use Rattle.wf_ast.specs.declared.parsed.DeclNode.{DeclNode}
use Rattle.wf_ast.specs.declared.parsed.Field.{Field}
use Rattle.wf_ast.specs.declared.parsed.Name.{Name}
use Rattle.wf_ast.specs.declared.parsed.WrittenMark.{WrittenMark}
use Rattle.wf_ast.specs.ParsedTree as tree
use Rattle.wf_ast.specs.ParsedTree.{ExprTree, StmtTree, TypeTree, FieldTrees, ResultTree, BlockTree, DeclTree}
use Rattle.wf_ast.specs.ParsedParts.{Parsed}
use Rattle.wf_ast.specs.ParsedTrees.{expr_trees, stmt_trees, decl_trees, decl_made, decls_made, fields_at}
use Rattle.wf_ast.proofs.TreeLemmas.{slice_get-seam}
use Rattle.wf_names_rules.specs.declared.tables.Numbers.{Numbers}
use Rattle.wf_names_rules.specs.declared.tables.Tables.{Tables}
use Rattle.wf_names_rules.specs.declared.tables.MethodVariables.{MethodVariables}
use Rattle.wf_names_rules.specs.declared.tables.Variables.{Variables}
use Rattle.wf_names_rules.specs.Declarations.{Variable, Constant, Structure, Method, Declared, declared, variables, as_variable, statuses_of, constants_of, structs_of, methods_of, is_spelt, struct_named, method_named, structure_in, fields_in, fields_of, locals_of, declared_in}
use Rattle.wf_names_rules.specs.Pairs.{Pair, same_pair}
use Rattle.wf_names_rules.specs.Tables.{has_number}
use Rattle.graphs.proofs.NumberLemmas.{same_number}
use Rattle.wf_names_scopes.specs.Agreeing.{TellsNumbers, TellsVariables, TellsPackage, TellsMethod, TellMethods}
use Rattle.wf_names_scopes.specs.Growing.{with_first, with_fields, with_status, with_constant, with_struct, with_method}
use Rattle.wf_names_scopes.proofs.FirstLemmas.{or_none, position_pushed, position_any, find_any, find_pushed, any_pushed, map_pushed, map_length}
use Rattle.wf_names_scopes.proofs.MethodLemmas.{tell-more}

-- The struct that a name stands for.
struct_at : (d : Declared) (p : Structure → Bool) (front xs : List Structure) → d.structs ≡ front ++ xs → structure_in d (position_from p (length front) xs) ≡ find p xs
struct_at d p front [] e = refl
struct_at d p front (x ∷ xs) e = by (p x) (struct_at d p (front ++ x ∷ []) xs (e ∙ sym (append_assoc front (x ∷ []) xs)))
  where
    next : length front + 1 ≡ length (front ++ x ∷ [])
    next = omega (arith, length-append front (x ∷ []))

    by : (b : Bool) → structure_in d (position_from p (length (front ++ x ∷ [])) xs) ≡ find p xs
        → structure_in d (cond b (Some (length front)) (position_from p (length front + 1) xs)) ≡ cond b (Some x) (find p xs)
    by true r = ap (λ ss. slice_get ss (length front)) e ∙ slice_get-seam front x xs
    by false r = ap (λ k. structure_in d (position_from p k xs)) next ∙ r

pub fields_found : (d : Declared) (owner : ℕ) → fields_of d owner ≡ fields_in (find (λ s. is_spelt owner s.name) d.structs)
fields_found d owner = ap fields_in (struct_at d (λ s. is_spelt owner s.name) [] d.structs refl)

named_found : (d : Declared) (owner : ℕ) → is_some (struct_named d owner) ≡ is_some (find (λ s. is_spelt owner s.name) d.structs)
named_found d owner = position_any (λ s. is_spelt owner s.name) 0 d.structs ∙ sym (find_any (λ s. is_spelt owner s.name) d.structs)

-- What a table of fields answers, of which `among` tells what it answers of the fields of one struct.
module _ {X : Type 0} (d : Declared) (s : Structure) (known : Numbers) (told : TellsNumbers 0 (λ s. s.name) d.structs known) (among : List Variable → ℕ → Option X) (none : (text : ℕ) → among [] text ≡ None)
    (old : Pair → Option X) (fields : (owner text : ℕ) → old (owner, text) ≡ among (fields_of d owner) text) where
  -- The fields that are known after one more struct.
  fields_behind : (owner text : ℕ) → among (fields_of (with_struct d s) owner) text
      ≡ among (fields_in (option_or (find (λ s. is_spelt owner s.name) d.structs) (cond (nat_eq s.name.text.0 owner) (Some s) None))) text
  fields_behind owner text =
      ap (λ vs. among vs text) (fields_found (with_struct d s) owner ∙ ap fields_in (find_pushed (λ s. is_spelt owner s.name) d.structs s))

  known_before : (owner : ℕ) → nat_eq s.name.text.0 owner ≡ true → is_some (find (λ s. is_spelt owner s.name) d.structs) ≡ has_number known s.name.text.0
  known_before owner e = sym (named_found d owner) ∙ sym (ap is_some (told.numbers owner)) ∙ ap (λ n. has_number known n) (sym (same_number s.name.text.0 owner e))

  pub fields_kept : has_number known s.name.text.0 ≡ true → (owner text : ℕ) → old (owner, text) ≡ among (fields_of (with_struct d s) owner) text
  fields_kept h owner text =
      fields owner text ∙ ap (λ vs. among vs text) (fields_found d owner)
      ∙ by (find (λ s. is_spelt owner s.name) d.structs) (nat_eq s.name.text.0 owner) (λ e. known_before owner e ∙ h) ∙ sym (fields_behind owner text)
    where
      by : (o : Option Structure) (b : Bool) → (b ≡ true → is_some o ≡ true) → among (fields_in o) text ≡ among (fields_in (option_or o (cond b (Some s) None))) text
      by (Some u) b k = refl
      by None false k = refl
      by None true k = absurd (cc (k refl))

  pub fields_new : has_number known s.name.text.0 ≡ false → (new : Pair → Option X)
      → ((owner text : ℕ) → new (owner, text) ≡ with_fields old s.name.text.0 among s.fields owner text)
      → (owner text : ℕ) → new (owner, text) ≡ among (fields_of (with_struct d s) owner) text
  fields_new h new added owner text =
      added owner text
      ∙ ap (λ o. option_or o (cond (nat_eq s.name.text.0 owner) (among s.fields text) None)) (fields owner text ∙ ap (λ vs. among vs text) (fields_found d owner))
      ∙ by (find (λ s. is_spelt owner s.name) d.structs) (nat_eq s.name.text.0 owner) (λ e. known_before owner e ∙ h) ∙ sym (fields_behind owner text)
    where
      by : (o : Option Structure) (b : Bool) → (b ≡ true → is_some o ≡ false)
          → option_or (among (fields_in o) text) (cond b (among s.fields text) None) ≡ among (fields_in (option_or o (cond b (Some s) None))) text
      by (Some u) false k = sym (or_none (among u.fields text))
      by (Some u) true k = absurd (cc (k refl))
      by None false k = sym (or_none (among [] text))
      by None true k = ap (λ o. option_or o (among s.fields text)) (none text)

-- The declarations of a package with one more.
pub statuses_append : (xs ys : List DeclTree) → statuses_of (xs ++ ys) ≡ statuses_of xs ++ statuses_of ys
statuses_append [] ys = refl
statuses_append (tree.status p n at ∷ xs) ys = ap (λ r. n ∷ r) (statuses_append xs ys)
statuses_append (tree.constant p n of v at ∷ xs) ys = statuses_append xs ys
statuses_append (tree.structure p n mark fs at ∷ xs) ys = statuses_append xs ys
statuses_append (tree.method p o n mark args r b at ∷ xs) ys = statuses_append xs ys

pub constants_append : (xs ys : List DeclTree) → constants_of (xs ++ ys) ≡ constants_of xs ++ constants_of ys
constants_append [] ys = refl
constants_append (tree.status p n at ∷ xs) ys = constants_append xs ys
constants_append (tree.constant p n of v at ∷ xs) ys = ap (λ r. record { name = n; of = of; value = v } ∷ r) (constants_append xs ys)
constants_append (tree.structure p n mark fs at ∷ xs) ys = constants_append xs ys
constants_append (tree.method p o n mark args r b at ∷ xs) ys = constants_append xs ys

pub structs_append : (xs ys : List DeclTree) → structs_of (xs ++ ys) ≡ structs_of xs ++ structs_of ys
structs_append [] ys = refl
structs_append (tree.status p n at ∷ xs) ys = structs_append xs ys
structs_append (tree.constant p n of v at ∷ xs) ys = structs_append xs ys
structs_append (tree.structure p n mark fs at ∷ xs) ys = ap (λ r. record { name = n; fields = variables fs } ∷ r) (structs_append xs ys)
structs_append (tree.method p o n mark args r b at ∷ xs) ys = structs_append xs ys

pub methods_append : (xs ys : List DeclTree) → methods_of (xs ++ ys) ≡ methods_of xs ++ methods_of ys
methods_append [] ys = refl
methods_append (tree.status p n at ∷ xs) ys = methods_append xs ys
methods_append (tree.constant p n of v at ∷ xs) ys = methods_append xs ys
methods_append (tree.structure p n mark fs at ∷ xs) ys = methods_append xs ys
methods_append (tree.method p o n mark args r b at ∷ xs) ys =
    ap (λ rest. record { public = p; owner = o; name = n; args = variables args; result = r; locals = locals_of b; body = b } ∷ rest) (methods_append xs ys)

-- What is declared after one more declaration.
module _ (texts : List (List ℕ)) (ds : List DeclTree) where
  abbrev with_these : List Name → List Constant → List Structure → List Method → Declared
  with_these names constants structs methods = record { texts = texts; statuses = names; constants = constants; structs = structs; methods = methods }

  same_declared : {a a2 : List Name} {b b2 : List Constant} {c c2 : List Structure} {m m2 : List Method} → a ≡ a2 → b ≡ b2 → c ≡ c2 → m ≡ m2 → with_these a b c m ≡ with_these a2 b2 c2 m2
  same_declared e f g h = λ i. with_these (e i) (f i) (g i) (h i)

  pub status_declared : (public : Bool) (name : Name) (at : Place) → declared texts (ds ++ tree.status public name at ∷ []) ≡ with_status (declared texts ds) name
  status_declared public name at =
      let x = tree.status public name at in
      same_declared (statuses_append ds (x ∷ [])) (constants_append ds (x ∷ []) ∙ append-nil (constants_of ds)) (structs_append ds (x ∷ []) ∙ append-nil (structs_of ds)) (methods_append ds (x ∷ []) ∙ append-nil (methods_of ds))

  pub struct_declared : (public : Bool) (name : Name) (mark : WrittenMark) (fields : FieldTrees) (at : Place)
      → declared texts (ds ++ tree.structure public name mark fields at ∷ []) ≡ with_struct (declared texts ds) (record { name = name; fields = variables fields })
  struct_declared public name mark fields at =
      let x = tree.structure public name mark fields at in
      same_declared (statuses_append ds (x ∷ []) ∙ append-nil (statuses_of ds)) (constants_append ds (x ∷ []) ∙ append-nil (constants_of ds)) (structs_append ds (x ∷ [])) (methods_append ds (x ∷ []) ∙ append-nil (methods_of ds))

  pub method_declared : (public : Bool) (owner name : Name) (mark : WrittenMark) (args : FieldTrees) (result : ResultTree) (body : BlockTree) (at : Place)
      → declared texts (ds ++ tree.method public owner name mark args result body at ∷ [])
      ≡ with_method (declared texts ds) (record { public = public; owner = owner; name = name; args = variables args; result = result; locals = locals_of body; body = body })
  method_declared public owner name mark args result body at =
      let x = tree.method public owner name mark args result body at in
      same_declared (statuses_append ds (x ∷ []) ∙ append-nil (statuses_of ds)) (constants_append ds (x ∷ []) ∙ append-nil (constants_of ds)) (structs_append ds (x ∷ []) ∙ append-nil (structs_of ds)) (methods_append ds (x ∷ []))

  pub constant_declared : (public : Bool) (name : Name) (of : TypeTree) (value : ExprTree) (at : Place)
      → declared texts (ds ++ tree.constant public name of value at ∷ []) ≡ with_constant (declared texts ds) (record { name = name; of = of; value = value })
  constant_declared public name of value at =
      let x = tree.constant public name of value at in
      same_declared (statuses_append ds (x ∷ []) ∙ append-nil (statuses_of ds)) (constants_append ds (x ∷ [])) (structs_append ds (x ∷ []) ∙ append-nil (structs_of ds)) (methods_append ds (x ∷ []) ∙ append-nil (methods_of ds))

-- An answer that says more.
pub on_ok : {X P Q : Type 0} (r : Result X NoMemory) → (P → Q) → OnOk r P → OnOk r Q
on_ok (Ok u) f h = f h
on_ok (Err e) f h = h

pub both_ok : {P Q R : Type 0} (r : Result (Unit {0}) NoMemory) → (P → Q → R) → OnOk r P → OnOk r Q → OnOk r R
both_ok (Ok u) f h k = f h k
both_ok (Err e) f h k = h

pub all_ok : {P Q R S T : Type 0} (r : Result (Unit {0}) NoMemory) → (P → Q → R → S → T) → OnOk r P → OnOk r Q → OnOk r R → OnOk r S → OnOk r T
all_ok (Ok u) f h k l m = f h k l m
all_ok (Err e) f h k l m = h

-- A status, a constant, a struct and a method after those that the tables tell.
pub status_more : (texts : List (List ℕ)) (t u : Tables) (public : Bool) (name : Name) (at : Place) → ((d : Declared) → TellsPackage d t → TellsPackage (with_status d name) u)
    → (ds : List DeclTree) → TellsPackage (declared texts ds) t → TellsPackage (declared texts (ds ++ tree.status public name at ∷ [])) u
status_more texts t u public name at step ds p =
    let P : Declared → Type 0 = λ d. TellsPackage d u in
    subst P (sym (status_declared texts ds public name at)) (step (declared texts ds) p)

pub constant_more : (texts : List (List ℕ)) (t u : Tables) (public : Bool) (name : Name) (of : TypeTree) (value : ExprTree) (at : Place)
    → ((d : Declared) (c : Constant) → d.texts ≡ texts → c.name ≡ name → c.of ≡ of → TellsPackage d t → TellsPackage (with_constant d c) u)
    → (ds : List DeclTree) → TellsPackage (declared texts ds) t → TellsPackage (declared texts (ds ++ tree.constant public name of value at ∷ [])) u
constant_more texts t u public name of value at step ds p =
    let P : Declared → Type 0 = λ d. TellsPackage d u in
    let c : Constant = record { name = name; of = of; value = value } in
    subst P (sym (constant_declared texts ds public name of value at)) (step (declared texts ds) c refl refl refl p)

-- The table of constants after one more.
pub constants_added : (d : Declared) (c : Constant) (texts : List (List ℕ)) (name : Name) (of : TypeTree) (old new : Variables) → d.texts ≡ texts → c.name ≡ name → c.of ≡ of
    → ((front : List Variable) → TellsVariables texts front old → TellsVariables texts (front ++ record { name = name; of = of } ∷ []) new)
    → TellsVariables d.texts (map as_variable d.constants) old → TellsVariables d.texts (map as_variable (d.constants ++ c ∷ [])) new
constants_added d c texts name of old new same named typed step tells =
    let there : List (List ℕ) → Type 0 = λ ts. TellsVariables ts (map as_variable d.constants) old in
    let made : Name → TypeTree → List Variable = λ n o. map as_variable d.constants ++ record { name = n; of = o } ∷ [] in
    let front = map as_variable d.constants in
    let all : made name of ≡ map as_variable (d.constants ++ c ∷ []) = (λ i. made (sym named i) (sym typed i)) ∙ sym (map_pushed as_variable d.constants c) in
    let P : List (List ℕ) → Type 0 = λ ts. TellsVariables ts (made name of) new in
    let Q : List Variable → Type 0 = λ vs. TellsVariables d.texts vs new in
    subst Q all (subst P (sym same) (step front (subst there same tells)))

pub struct_more : (texts : List (List ℕ)) (t u : Tables) (public : Bool) (name : Name) (mark : WrittenMark) (fields : FieldTrees) (at : Place)
    → ((d : Declared) → d.texts ≡ texts → TellsPackage d t → TellsPackage (with_struct d (record { name = name; fields = variables fields })) u)
    → (ds : List DeclTree) → TellsPackage (declared texts ds) t → TellsPackage (declared texts (ds ++ tree.structure public name mark fields at ∷ [])) u
struct_more texts t u public name mark fields at step ds p =
    let P : Declared → Type 0 = λ d. TellsPackage d u in
    subst P (sym (struct_declared texts ds public name mark fields at)) (step (declared texts ds) refl p)

pub method_more : (texts : List (List ℕ)) (es : List ExprTree) (t u : Tables) (public : Bool) (owner name : Name) (mark : WrittenMark) (args : List Field) (result : ResultTree) (body : BlockTree) (at : Place)
    → ((d : Declared) (m : Method) → d.texts ≡ texts → m.public ≡ public → m.owner ≡ owner → m.name ≡ name → m.args ≡ variables (fields_at es args) → m.locals ≡ locals_of body → TellsPackage d t → TellsPackage (with_method d m) u)
    → (ds : List DeclTree) → TellsPackage (declared texts ds) t → TellsPackage (declared texts (ds ++ tree.method public owner name mark (fields_at es args) result body at ∷ [])) u
method_more texts es t u public owner name mark args result body at step ds p =
    let P : Declared → Type 0 = λ d. TellsPackage d u in
    let m : Method = record { public = public; owner = owner; name = name; args = variables (fields_at es args); result = result; locals = locals_of body; body = body } in
    subst P (sym (method_declared texts ds public owner name mark (fields_at es args) result body at)) (step (declared texts ds) m refl refl refl refl refl refl p)

-- The parts of the tables after one more.
pub count : {Z : Type 0} (n : ℕ) (publics : Vec Bool Z) (ms : List Method) → n ≡ vec_len publics → publics.items ≡ map (λ m. m.public) ms → n ≡ length ms
count n publics ms h e =
    let flag : Method → Bool = λ m. m.public in
    let same : length publics.items ≡ length ms = ap length e ∙ map_length flag ms in
    omega (arith, h, same)

module _ (d : Declared) (m : Method) where
  pub number_added : (owner name : Name) (n : ℕ) (old new : Pair → Option ℕ) → m.owner ≡ owner → m.name ≡ name → n ≡ length d.methods
      → ((key : Pair) → new key ≡ with_first same_pair old (owner.text.0, name.text.0) n key) → ((other text : ℕ) → old (other, text) ≡ method_named d other text)
      → (other text : ℕ) → new (other, text) ≡ method_named (with_method d m) other text
  number_added owner name n old new owned named count h k other text =
      let place : n ≡ 0 + length d.methods = omega (arith, count) in
      h (other, text) ∙ ap (λ o. option_or o (cond (nat_eq owner.text.0 other && nat_eq name.text.0 text) (Some n) None)) (k other text)
      ∙ ap (λ z. option_or (method_named d other text) (cond (nat_eq owner.text.0 other && nat_eq name.text.0 text) (Some z) None)) place
      ∙ ap (λ (w : Name). option_or (method_named d other text) (cond (nat_eq w.text.0 other && nat_eq name.text.0 text) (Some (0 + length d.methods)) None)) (sym owned)
      ∙ ap (λ (w : Name). option_or (method_named d other text) (cond (nat_eq m.owner.text.0 other && nat_eq w.text.0 text) (Some (0 + length d.methods)) None)) (sym named)
      ∙ sym (position_pushed (λ m. is_spelt other m.owner && is_spelt text m.name) 0 d.methods m)

  pub name_added : (name : Name) (old new : ℕ → Bool) → m.name ≡ name → ((text : ℕ) → new text ≡ (old text || nat_eq name.text.0 text))
      → ((text : ℕ) → old text ≡ list_any (λ m. is_spelt text m.name) d.methods) → (text : ℕ) → new text ≡ list_any (λ m. is_spelt text m.name) (d.methods ++ m ∷ [])
  name_added name old new named h k text =
      h text ∙ ap (λ b. b || nat_eq name.text.0 text) (k text) ∙ ap (λ (w : Name). list_any (λ m. is_spelt text m.name) d.methods || nat_eq w.text.0 text) (sym named)
      ∙ sym (any_pushed (λ m. is_spelt text m.name) d.methods m)

  pub public_added : (public : Bool) (old new : List Bool) → m.public ≡ public → new ≡ old ++ public ∷ [] → old ≡ map (λ m. m.public) d.methods → new ≡ map (λ m. m.public) (d.methods ++ m ∷ [])
  public_added public old new is e k =
      e ∙ ap (λ xs. xs ++ public ∷ []) k ∙ ap (λ b. map (λ m. m.public) d.methods ++ b ∷ []) (sym is) ∙ sym (map_pushed (λ m. m.public) d.methods m)

  pub variables_added : (old new : List MethodVariables) (known : MethodVariables) → new ≡ old ++ known ∷ [] → TellsMethod d.texts m known → TellMethods d.texts d.methods old
      → TellMethods d.texts (d.methods ++ m ∷ []) new
  variables_added old new known e tells k = subst (TellMethods d.texts (d.methods ++ m ∷ [])) (sym e) (tell-more d.texts d.methods old m known k tells)

pub taken : (fresh before : Bool) → fresh ≡ not before → fresh ≡ false → before ≡ true
taken fresh true e f = refl
taken fresh false e f = absurd (cc (e, f))

pub untaken : (fresh before : Bool) → fresh ≡ not before → fresh ≡ true → before ≡ false
untaken fresh false e f = refl
untaken fresh true e f = absurd (cc (e, f))

-- The declarations of a package up to a place.
made_append : (es : List ExprTree) (ts : List StmtTree) (xs ys : List DeclNode) → decls_made es ts (xs ++ ys) ≡ decls_made es ts xs ++ decls_made es ts ys
made_append es ts [] ys = refl
made_append es ts (x ∷ xs) ys = ap (λ r. decl_made es ts x.public x.decl x.at ∷ r) (made_append es ts xs ys)

take_at : {X : Type 0} (xs : List X) (i : ℕ) (x : X) → slice_get xs i ≡ Some x → take (i + 1) xs ≡ take i xs ++ x ∷ []
take_at [] i x e = absurd (cc e)
take_at (y ∷ ys) zero x e = let same : y ≡ x = cc e in ap (λ z. z ∷ []) same
take_at {X} (y ∷ ys) (suc i) x e =
    let next : suc (i + 1) ≡ suc i + 1 = omega arith in
    let P : ℕ → Type 0 = λ j. take j (y ∷ ys) ≡ y ∷ (take i ys ++ x ∷ []) in
    subst P next (ap (λ r. y ∷ r) (take_at ys i x e))

pub trees_made : (p : Parsed) → decl_trees p.exprs p.stmts p.decls ≡ decls_made (expr_trees p.exprs) (stmt_trees p.exprs p.stmts) p.decls
unfolding decl_trees
trees_made p = refl

pub node_next : (p : Parsed) (i : ℕ) (x : DeclNode) (t u : Tables) → slice_get p.decls i ≡ Some x
    → TellsPackage (declared p.texts (decls_made (expr_trees p.exprs) (stmt_trees p.exprs p.stmts) (take i p.decls))) t
    → ((ds : List DeclTree) → TellsPackage (declared p.texts ds) t → TellsPackage (declared p.texts (ds ++ decl_made (expr_trees p.exprs) (stmt_trees p.exprs p.stmts) x.public x.decl x.at ∷ [])) u)
    → TellsPackage (declared p.texts (decls_made (expr_trees p.exprs) (stmt_trees p.exprs p.stmts) (take (i + 1) p.decls))) u
node_next p i x t u at tells step =
    let es = expr_trees p.exprs in
    let ts = stmt_trees p.exprs p.stmts in
    let P : List DeclTree → Type 0 = λ ds. TellsPackage (declared p.texts ds) u in
    subst P (sym (ap (decls_made es ts) (take_at p.decls i x at) ∙ made_append es ts (take i p.decls) (x ∷ []))) (step (decls_made es ts (take i p.decls)) tells)

pub nodes_done : (p : Parsed) (i : ℕ) (t : Tables) → length p.decls ≤ i
    → TellsPackage (declared p.texts (decls_made (expr_trees p.exprs) (stmt_trees p.exprs p.stmts) (take i p.decls))) t → TellsPackage (declared_in p) t
nodes_done p i t h tells =
    let P : List DeclTree → Type 0 = λ ds. TellsPackage (declared p.texts ds) t in
    let whole : take i p.decls ≡ p.decls = take_all i p.decls h in
    subst P (ap (decls_made (expr_trees p.exprs) (stmt_trees p.exprs p.stmts)) whole ∙ sym (trees_made p)) tells
