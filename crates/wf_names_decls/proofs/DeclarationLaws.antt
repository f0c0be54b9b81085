-- What the passes over declarations find is what the rules say.
use Rattle.std.proofs.Common.{◌≡◌, ◌⊎◌, ℕ, zero, suc, ◌<◌, Bool, true, false, if◌then◌else◌, List, [], ◌∷◌, ◌++◌, map, Option, Some, None, slice_get, nat_eq, refl, sym, ap, ◌∙◌, subst, inl, inr, arith}
use Rattle.std.proofs.lemmas.Bool.Decides.{nat_tests}
use Rattle.std.specs.List.{flat_map}
use Rattle.wf_text.specs.declared.rules.Rule.{Rule}
use Rattle.wf_text.specs.declared.rules.Rule.TheVariants.{N3, L6, L7}
use Rattle.wf_text.specs.declared.rules.Refusal.{Refusal}
use Rattle.wf_text.specs.Precedence.{is_before, sooner, soonest, IsFirst, Decides}
use Rattle.wf_text.proofs.PrecedenceLaws.{is_before-self, is_before-over, Decides-map, IsFirst-same}
use Rattle.wf_ast.specs.declared.numbers.TextId.{TextId}
use Rattle.wf_ast.specs.declared.parsed.Name.{Name}
use Rattle.wf_names_rules.specs.Declarations.{Variable, Constant, Structure, Method, Declared, is_spelt, text_of}
use Rattle.wf_names_rules.specs.Reserved.{is_reserved, is_initialize}
use Rattle.wf_names_rules.specs.Passes.{doubles_of, reserved_of, initializes_of, beyond, beyond_in}
use Rattle.wf_names_rules.specs.Found.{RepeatsName, ReservesName, InitializesName}
use Rattle.wf_names_rules.specs.NameRules as rules
use Rattle.wf_names_rules.specs.NameRules.{AreApart, DeclarationBreaks, IsMethod, IsRepeated, IsStructure, declared_names, later_of, names_owned, twice, variable_names}
use Rattle.wf_names_rules.proofs.ListLaws.{doubles-sound, doubles-complete, reserved-sound, reserved-complete, initializes-sound, initializes-complete}
use Rattle.wf_names_decls.specs.Gathering.{constant_names, struct_names}
use Rattle.wf_names_decls.specs.DeclarationPass.{names_judged, declared_twice_in_struct, methods_judged, first_spelt, local_and_constant, locals_and_constants, args_judged, locals_judged, struct_judged, method_judged, statuses_found, constants_found, structs_found, methods_found, names_found, fields_found, variables_found, declarations_found}
use Rattle.wf_names_decls.proofs.PassLaws.{Each, Adds, adds-then, adds-finds, adds-one, adds-each}
use Rattle.wf_names_decls.proofs.OwnedLaws.{RepeatsOwned, owned-sound, owned-complete}

-- Of a list of names.
abbrev Misnamed : List (List ℕ) → List Name → Refusal → Type 0
Misnamed texts names s = RepeatsName names s ⊎ ReservesName texts names s

doubles-add : (names : List Name) → Adds (λ found. soonest found (doubles_of [] names)) (RepeatsName names)
doubles-add names = adds-finds (doubles_of [] names) (RepeatsName names) (doubles-sound names) (doubles-complete names)

reserved-add : (texts : List (List ℕ)) (names : List Name) → Adds (λ found. soonest found (reserved_of texts names)) (ReservesName texts names)
reserved-add texts names = adds-finds (reserved_of texts names) (ReservesName texts names) (reserved-sound texts names) (reserved-complete texts names)

names-add : (texts : List (List ℕ)) (names : List Name) → Adds (λ found. names_judged texts found names) (Misnamed texts names)
names-add texts names =
    adds-then (λ found. soonest found (doubles_of [] names)) (λ found. soonest found (reserved_of texts names)) (RepeatsName names) (ReservesName texts names)
    (doubles-add names) (reserved-add texts names)

-- The name after a limit.
abbrev Beyond : Rule → ℕ → List Name → Refusal → Type 0
Beyond rule limit names s = (name : Name) × ((slice_get names limit ≡ Some name) × (s ≡ record { rule = rule; at = name.at }))

beyond-cause : (rule : Rule) (limit : ℕ) (names : List Name) (s : Refusal) → beyond rule limit names ≡ Some s → Beyond rule limit names s
beyond-cause rule limit names s e = by_item (slice_get names limit) refl e
  where
    by_item : (item : Option Name) → slice_get names limit ≡ item → beyond_in rule item ≡ Some s → Beyond rule limit names s
    by_item None is k = absurd (cc k)
    by_item (Some name) is k = (name, (is, let same : record { rule = rule; at = name.at } ≡ s = cc k in sym same))

beyond-found : (rule : Rule) (limit : ℕ) (names : List Name) (s : Refusal) → Beyond rule limit names s → beyond rule limit names ≡ Some s
beyond-found rule limit names s h = ap (λ item. beyond_in rule item) h.1.0 ∙ ap (λ x. Some x) (sym h.1.1)

beyond-adds : (rule : Rule) (limit : ℕ) (names : List Name) → Adds (λ found. sooner found (beyond rule limit names)) (Beyond rule limit names)
beyond-adds rule limit names = adds-one (beyond rule limit names) (Beyond rule limit names) (beyond-cause rule limit names) (beyond-found rule limit names)

-- A local of the name of a constant.
abbrev Hides : (ℕ → Option Name) → List Name → Refusal → Type 0
Hides constant locals s = (i : ℕ) × (v : Name) × (c : Name) × ((slice_get locals i ≡ Some v) × ((constant v.text.0 ≡ Some c) × (s ≡ later_of v c)))

inner : (x y : Option Refusal) → Some x ≡ Some y → x ≡ y
inner x y e = cc e

hidden-cause : (constant : ℕ → Option Name) (locals : List Name) (s : Refusal) (i : ℕ) → slice_get (locals_and_constants constant locals) i ≡ Some (Some s) → Hides constant locals s
hidden-cause constant [] s i e = absurd (cc e)
hidden-cause constant (v ∷ vs) s zero e = by_constant (constant v.text.0) refl (inner (local_and_constant (constant v.text.0) v) (Some s) e)
  where
    by_constant : (item : Option Name) → constant v.text.0 ≡ item → local_and_constant item v ≡ Some s → Hides constant (v ∷ vs) s
    by_constant None is k = absurd (cc k)
    by_constant (Some c) is k = (0, v, c, (refl, (is, let same : later_of v c ≡ s = inner_some k in sym same)))
      where
        inner_some : {x y : Refusal} → Some x ≡ Some y → x ≡ y
        inner_some e = cc e
hidden-cause constant (v ∷ vs) s (suc i) e = let r = hidden-cause constant vs s i e in (suc r.0, r.1, r.2, r.3)

hidden-found : (constant : ℕ → Option Name) (locals : List Name) (i : ℕ) (v c : Name) → slice_get locals i ≡ Some v → constant v.text.0 ≡ Some c
    → slice_get (locals_and_constants constant locals) i ≡ Some (Some (later_of v c))
hidden-found constant [] i v c e h = absurd (cc e)
hidden-found constant (w ∷ ws) zero v c e h =
    let same : w ≡ v = cc e in
    ap (λ (x : Name). Some (local_and_constant (constant x.text.0) x)) same ∙ ap (λ item. Some (local_and_constant item v)) h
hidden-found constant (w ∷ ws) (suc i) v c e h = hidden-found constant ws i v c e h

hidden-adds : (constant : ℕ → Option Name) (locals : List Name) → Adds (λ found. soonest found (locals_and_constants constant locals)) (Hides constant locals)
hidden-adds constant locals =
    adds-finds (locals_and_constants constant locals) (Hides constant locals) (λ s f. hidden-cause constant locals s f.0 f.1)
    (λ s h. (h.0, hidden-found constant locals h.0 h.1 h.2 h.3.0 h.3.1.0 ∙ ap (λ x. Some (Some x)) (sym h.3.1.1)))

-- Methods.
abbrev MethodCause : List (List ℕ) → List Method → Refusal → Type 0
MethodCause texts ms s =
    ((RepeatsOwned ms s ⊎ ReservesName texts (map (λ m. m.name) ms) s) ⊎ InitializesName texts (map (λ m. m.name) ms) s) ⊎ Beyond L6 1024 (map (λ m. m.name) ms) s

methods-add : (texts : List (List ℕ)) (ms : List Method) → Adds (λ found. methods_judged texts found (map (λ m. m.owner) ms) (map (λ m. m.name) ms)) (MethodCause texts ms)
methods-add texts ms =
    let names : List Name = map (λ (m : Method). m.name) ms in
    let doubles : Option Refusal → Option Refusal = λ found. soonest found (declared_twice_in_struct [] (map (λ m. m.owner) ms) (map (λ m. m.name) ms)) in
    let kept : Option Refusal → Option Refusal = λ found. soonest found (reserved_of texts names) in
    let begun : Option Refusal → Option Refusal = λ found. soonest found (initializes_of texts names) in
    let over : Option Refusal → Option Refusal = λ found. sooner found (beyond L6 1024 names) in
    let Doubles : Refusal → Type 0 = RepeatsOwned ms in
    let Kept : Refusal → Type 0 = ReservesName texts names in
    let Begun : Refusal → Type 0 = InitializesName texts names in
    adds-then (λ found. begun (kept (doubles found))) over (λ s. (Doubles s ⊎ Kept s) ⊎ Begun s) (Beyond L6 1024 names)
    (adds-then (λ found. kept (doubles found)) begun (λ s. Doubles s ⊎ Kept s) Begun
    (adds-then doubles kept Doubles Kept (adds-finds (declared_twice_in_struct [] (map (λ m. m.owner) ms) (map (λ m. m.name) ms)) Doubles (owned-sound ms) (owned-complete ms)) (reserved-add texts names))
    (adds-finds (initializes_of texts names) Begun (initializes-sound texts names) (initializes-complete texts names)))
    (beyond-adds L6 1024 names)

-- The arguments and the locals of a method.
abbrev ArgCause : List (List ℕ) → List Name → Refusal → Type 0
ArgCause texts args s = Misnamed texts args s ⊎ Beyond L7 64 args s

args-add : (texts : List (List ℕ)) (args : List Name) → Adds (λ found. args_judged texts found args) (ArgCause texts args)
args-add texts args =
    adds-then (λ found. names_judged texts found args) (λ found. sooner found (beyond L7 64 args)) (Misnamed texts args) (Beyond L7 64 args)
    (names-add texts args) (beyond-adds L7 64 args)

abbrev LocalCause : (ℕ → Option Name) → List (List ℕ) → List Name → Refusal → Type 0
LocalCause constant texts locals s = (Misnamed texts locals s ⊎ Hides constant locals s) ⊎ Beyond L7 256 locals s

locals-add : (constant : ℕ → Option Name) (texts : List (List ℕ)) (locals : List Name) → Adds (λ found. locals_judged constant texts found locals) (LocalCause constant texts locals)
locals-add constant texts locals =
    adds-then (λ found. soonest (names_judged texts found locals) (locals_and_constants constant locals)) (λ found. sooner found (beyond L7 256 locals))
    (λ s. Misnamed texts locals s ⊎ Hides constant locals s) (Beyond L7 256 locals)
    (adds-then (λ found. names_judged texts found locals) (λ found. soonest found (locals_and_constants constant locals)) (Misnamed texts locals) (Hides constant locals)
    (names-add texts locals) (hidden-adds constant locals))
    (beyond-adds L7 256 locals)

abbrev InMethod : (ℕ → Option Name) → List (List ℕ) → Method → Refusal → Type 0
InMethod constant texts m s = ArgCause texts (variable_names m.args) s ⊎ LocalCause constant texts (variable_names m.locals) s

method-adds : (constant : ℕ → Option Name) (texts : List (List ℕ)) (m : Method) → Adds (λ found. method_judged constant texts found m) (InMethod constant texts m)
method-adds constant texts m =
    adds-then (λ found. args_judged texts found (variable_names m.args)) (λ found. locals_judged constant texts found (variable_names m.locals))
    (ArgCause texts (variable_names m.args)) (LocalCause constant texts (variable_names m.locals))
    (args-add texts (variable_names m.args)) (locals-add constant texts (variable_names m.locals))

abbrev InStruct : List (List ℕ) → Structure → Refusal → Type 0
InStruct texts s r = Misnamed texts (variable_names s.fields) r

-- All causes that the passes know, in their order.
abbrev NameCause : Declared → Refusal → Type 0
NameCause d s = ((RepeatsName d.statuses s ⊎ Misnamed d.texts (constant_names d) s) ⊎ Misnamed d.texts (struct_names d) s) ⊎ MethodCause d.texts d.methods s

abbrev Known : Declared → Refusal → Type 0
Known d s = (NameCause d s ⊎ Each (InStruct d.texts) d.structs s) ⊎ Each (InMethod (first_spelt (constant_names d)) d.texts) d.methods s

names-found-add : (d : Declared) → Adds (names_found d) (NameCause d)
names-found-add d =
    adds-then (λ found. structs_found d (constants_found d (statuses_found d found))) (methods_found d)
    (λ s. (RepeatsName d.statuses s ⊎ Misnamed d.texts (constant_names d) s) ⊎ Misnamed d.texts (struct_names d) s) (MethodCause d.texts d.methods)
    (adds-then (λ found. constants_found d (statuses_found d found)) (structs_found d) (λ s. RepeatsName d.statuses s ⊎ Misnamed d.texts (constant_names d) s) (Misnamed d.texts (struct_names d))
    (adds-then (statuses_found d) (constants_found d) (RepeatsName d.statuses) (Misnamed d.texts (constant_names d)) (doubles-add d.statuses) (names-add d.texts (constant_names d)))
    (names-add d.texts (struct_names d)))
    (methods-add d.texts d.methods)

known-added : (d : Declared) → Adds (declarations_found d) (Known d)
known-added d =
    let constant = first_spelt (constant_names d) in
    adds-then (λ found. fields_found d (names_found d found)) (variables_found d) (λ s. NameCause d s ⊎ Each (InStruct d.texts) d.structs s) (Each (InMethod constant d.texts) d.methods)
    (adds-then (names_found d) (fields_found d) (NameCause d) (Each (InStruct d.texts) d.structs) (names-found-add d)
    (adds-each (struct_judged d.texts) (InStruct d.texts) (λ s. names-add d.texts (variable_names s.fields)) d.structs))
    (adds-each (method_judged constant d.texts) (InMethod constant d.texts) (method-adds constant d.texts) d.methods)

-- Names among others.
abbrev Named : List Name → Name → Type 0
Named names n = (i : ℕ) × (slice_get names i ≡ Some n)

front-get : (xs ys : List Name) (i : ℕ) (n : Name) → slice_get xs i ≡ Some n → slice_get (xs ++ ys) i ≡ Some n
front-get [] ys i n e = absurd (cc e)
front-get (x ∷ xs) ys zero n e = e
front-get (x ∷ xs) ys (suc i) n e = front-get xs ys i n e

front : (xs ys : List Name) (n : Name) → Named xs n → Named (xs ++ ys) n
front xs ys n h = (h.0, front-get xs ys h.0 n h.1)

behind : (xs ys : List Name) (n : Name) → Named ys n → Named (xs ++ ys) n
behind [] ys n h = h
behind (x ∷ xs) ys n h = let r = behind xs ys n h in (suc r.0, r.1)

either-list : (xs ys : List Name) (i : ℕ) (n : Name) → slice_get (xs ++ ys) i ≡ Some n → Named xs n ⊎ Named ys n
either-list [] ys i n e = inr (i, e)
either-list (x ∷ xs) ys zero n e = inl (0, e)
either-list (x ∷ xs) ys (suc i) n e = elim (either-list xs ys i n e) [ inl a ↦ inl (suc a.0, a.1) | inr b ↦ inr b ]

flat-in : {A : Type 0} (f : A → List Name) (xs : List A) (i : ℕ) (x : A) (n : Name) → slice_get xs i ≡ Some x → Named (f x) n → Named (flat_map f xs) n
flat-in f [] i x n e h = absurd (cc e)
flat-in {A} f (y ∷ ys) zero x n e h =
    let same : y ≡ x = cc e in
    let P : A → Type 0 = λ z. Named (f z) n in front (f y) (flat_map f ys) n (subst P (sym same) h)
flat-in f (y ∷ ys) (suc i) x n e h = behind (f y) (flat_map f ys) n (flat-in f ys i x n e h)

-- The item of a list that a name of many lists comes from.
record Source {A : Type 0} (f : A → List Name) (xs : List A) (n : Name) : Type 0 where
  place : ℕ
  item : A
  is : slice_get xs place ≡ Some item
  named : Named (f item) n

flat-out : {A : Type 0} (f : A → List Name) (xs : List A) (i : ℕ) (n : Name) → slice_get (flat_map f xs) i ≡ Some n → Source f xs n
flat-out f [] i n e = absurd (cc e)
flat-out f (y ∷ ys) i n e = elim (either-list (f y) (flat_map f ys) i n e) [
  | inl a ↦ record { place = 0; item = y; is = refl; named = a }
  | inr b ↦ let r = flat-out f ys b.0 n b.1 in record { place = suc r.place; item = r.item; is = r.is; named = r.named }
]

-- The item that a name is of.
record Bearer {A : Type 0} (name : A → Name) (xs : List A) (i : ℕ) (n : Name) : Type 0 where
  item : A
  is : slice_get xs i ≡ Some item
  same : name item ≡ n

bearer : {A : Type 0} (name : A → Name) (xs : List A) (i : ℕ) (n : Name) → slice_get (map name xs) i ≡ Some n → Bearer name xs i n
bearer name [] i n e = absurd (cc e)
bearer name (x ∷ xs) zero n e = record { item = x; is = refl; same = cc e }
bearer name (x ∷ xs) (suc i) n e = let r = bearer name xs i n e in record { item = r.item; is = r.is; same = r.same }

borne : {A : Type 0} (name : A → Name) (xs : List A) (i : ℕ) (x : A) → slice_get xs i ≡ Some x → slice_get (map name xs) i ≡ Some (name x)
borne name [] i x e = absurd (cc e)
borne name (y ∷ ys) zero x e = let same : y ≡ x = cc e in ap (λ z. Some (name z)) same
borne name (y ∷ ys) (suc i) x e = borne name ys i x e

-- What is declared is among what is declared.
module _ (d : Declared) where
  abbrev of_fields : List Name
  of_fields = flat_map (λ s. variable_names s.fields) d.structs

  abbrev of_methods : List Name
  of_methods = flat_map (λ m. variable_names m.args ++ variable_names m.locals) d.methods

  in-constants : (n : Name) → Named (constant_names d) n → Named (declared_names d) n
  in-constants n h = front (constant_names d) (struct_names d ++ (map (λ m. m.name) d.methods ++ (of_fields ++ of_methods))) n h

  in-structs : (n : Name) → Named (struct_names d) n → Named (declared_names d) n
  in-structs n h =
      behind (constant_names d) (struct_names d ++ (map (λ m. m.name) d.methods ++ (of_fields ++ of_methods))) n
      (front (struct_names d) (map (λ m. m.name) d.methods ++ (of_fields ++ of_methods)) n h)

  in-methods : (n : Name) → Named (map (λ m. m.name) d.methods) n → Named (declared_names d) n
  in-methods n h =
      behind (constant_names d) (struct_names d ++ (map (λ m. m.name) d.methods ++ (of_fields ++ of_methods))) n
      (behind (struct_names d) (map (λ m. m.name) d.methods ++ (of_fields ++ of_methods)) n (front (map (λ m. m.name) d.methods) (of_fields ++ of_methods) n h))

  in-variables : (n : Name) → Named (of_fields ++ of_methods) n → Named (declared_names d) n
  in-variables n h =
      behind (constant_names d) (struct_names d ++ (map (λ m. m.name) d.methods ++ (of_fields ++ of_methods))) n
      (behind (struct_names d) (map (λ m. m.name) d.methods ++ (of_fields ++ of_methods)) n (behind (map (λ m. m.name) d.methods) (of_fields ++ of_methods) n h))

  in-fields : (s : Structure) → IsStructure d s → (n : Name) → Named (variable_names s.fields) n → Named (declared_names d) n
  in-fields s is n h = in-variables n (front of_fields of_methods n (flat-in (λ s. variable_names s.fields) d.structs is.0 s n is.1 h))

  in-method : (m : Method) → IsMethod d m → (n : Name) → Named (variable_names m.args ++ variable_names m.locals) n → Named (declared_names d) n
  in-method m is n h = in-variables n (behind of_fields of_methods n (flat-in (λ m. variable_names m.args ++ variable_names m.locals) d.methods is.0 m n is.1 h))

  in-args : (m : Method) → IsMethod d m → (n : Name) → Named (variable_names m.args) n → Named (declared_names d) n
  in-args m is n h = in-method m is n (front (variable_names m.args) (variable_names m.locals) n h)

  in-locals : (m : Method) → IsMethod d m → (n : Name) → Named (variable_names m.locals) n → Named (declared_names d) n
  in-locals m is n h = in-method m is n (behind (variable_names m.args) (variable_names m.locals) n h)

  -- Each cause that the passes know is in the table.
  as-refused : (s r : Refusal) → s ≡ r → DeclarationBreaks d r → DeclarationBreaks d s
  as-refused s r e b = let P : Refusal → Type 0 = λ t. DeclarationBreaks d t in subst P (sym e) b

  repeated-breaks : (names : List Name) → AreApart d names → (s : Refusal) → RepeatsName names s → DeclarationBreaks d s
  repeated-breaks names apart s r = as-refused s (twice r.0) r.1.1 (rules.declared_twice names r.0 apart r.1.0)

  reserved-breaks : (names : List Name) → ((n : Name) → Named names n → Named (declared_names d) n) → (s : Refusal) → ReservesName d.texts names s → DeclarationBreaks d s
  reserved-breaks names within s r =
      let k = within r.name (r.place, r.is) in as-refused s (record { rule = N3; at = r.name.at }) r.refused (rules.reserved_name k.0 r.name k.1 r.reserved)

  misnamed-breaks : (names : List Name) → AreApart d names → ((n : Name) → Named names n → Named (declared_names d) n) → (s : Refusal) → Misnamed d.texts names s → DeclarationBreaks d s
  misnamed-breaks names apart within s c = elim c [ inl r ↦ repeated-breaks names apart s r | inr r ↦ reserved-breaks names within s r ]

  method-of : (i : ℕ) (n : Name) → slice_get (map (λ m. m.name) d.methods) i ≡ Some n → Bearer (λ m. m.name) d.methods i n
  method-of i n e = bearer (λ m. m.name) d.methods i n e

  initialize-breaks : (s : Refusal) → InitializesName d.texts (map (λ m. m.name) d.methods) s → DeclarationBreaks d s
  initialize-breaks s r =
      let m = method-of r.place r.name r.is in
      let P : Name → Type 0 = λ n. is_initialize (text_of d n.text.0) ≡ true in
      as-refused s (record { rule = N3; at = m.item.name.at }) (r.refused ∙ ap (λ (n : Name). record { rule = N3; at = n.at }) (sym m.same))
      (rules.initialize m.item (r.place, m.is) (subst P (sym m.same) r.initialize))

  method-breaks : (s : Refusal) → MethodCause d.texts d.methods s → DeclarationBreaks d s
  method-breaks s c = elim c [
    | inl a ↦ elim a [
      | inl b ↦ elim b [
        | inl r ↦ repeated-breaks (names_owned r.owner d.methods) (rules.methods r.owner) s r.repeats
        | inr r ↦ reserved-breaks (map (λ m. m.name) d.methods) in-methods s r
      ]
      | inr r ↦ initialize-breaks s r
    ]
    | inr r ↦
        let m = method-of 1024 r.0 r.1.0 in
        as-refused s (record { rule = L6; at = m.item.name.at }) (r.1.1 ∙ ap (λ (n : Name). record { rule = L6; at = n.at }) (sym m.same)) (rules.too_many_methods m.item m.is)
  ]

  arg-breaks : (m : Method) → IsMethod d m → (s : Refusal) → ArgCause d.texts (variable_names m.args) s → DeclarationBreaks d s
  arg-breaks m is s c = elim c [
    | inl r ↦ misnamed-breaks (variable_names m.args) (rules.args m is) (in-args m is) s r
    | inr r ↦
        let v = bearer (λ v. v.name) m.args 64 r.0 r.1.0 in
        as-refused s (record { rule = L7; at = v.item.name.at }) (r.1.1 ∙ ap (λ (n : Name). record { rule = L7; at = n.at }) (sym v.same)) (rules.too_many_args m v.item is v.is)
  ]

-- The constant of a text, and what the first one of a text is.
record IsSpelt (names : List Name) (text : ℕ) (c : Name) : Type 0 where
  place : ℕ
  is : slice_get names place ≡ Some c
  spelt : c.text.0 ≡ text

number-same : (a b : ℕ) → nat_eq a b ≡ true → a ≡ b
number-same a b h = grind (arith, nat_tests, h)

number-self : (a : ℕ) → nat_eq a a ≡ true
number-self a = grind (arith, nat_tests)

text-same : (a b : TextId) → a.0 ≡ b.0 → a ≡ b
text-same a b e = let made : ℕ → TextId = λ x. record { 0 = x } in ap made e

spelt-if : (b : Bool) (n : Name) (names : List Name) (text : ℕ) (c : Name) → is_spelt text n ≡ b → (first_spelt names text ≡ Some c → IsSpelt names text c)
    → (if b then Some n else first_spelt names text) ≡ Some c → IsSpelt (n ∷ names) text c
spelt-if true n names text c t more e =
    let same : n ≡ c = cc e in
    record { place = 0; is = ap (λ x. Some x) same; spelt = sym (ap (λ (x : Name). x.text.0) same) ∙ number-same n.text.0 text t }
spelt-if false n names text c t more e = let r = more e in record { place = suc r.place; is = r.is; spelt = r.spelt }

first-is-spelt : (names : List Name) (text : ℕ) (c : Name) → first_spelt names text ≡ Some c → IsSpelt names text c
first-is-spelt [] text c e = absurd (cc e)
first-is-spelt (n ∷ names) text c e = spelt-if (is_spelt text n) n names text c refl (first-is-spelt names text c) e

-- A name of the list is the first of its text or after it.
record IsFirstOr (names : List Name) (j : ℕ) (c : Name) : Type 0 where
  name : Name
  place : ℕ
  first : first_spelt names c.text.0 ≡ Some name
  is : slice_get names place ≡ Some name
  same : name.text.0 ≡ c.text.0
  order : (name ≡ c) ⊎ (place < j)

first-if : (b : Bool) (n : Name) (names : List Name) (j : ℕ) (c : Name) → is_spelt c.text.0 n ≡ b → IsFirstOr names j c → IsFirstOr (n ∷ names) (suc j) c
first-if true n names j c t r = record {
  name = n;
  place = 0;
  first = ap (λ b. if b then Some n else first_spelt names c.text.0) t;
  is = refl;
  same = number-same n.text.0 c.text.0 t;
  order = inr (omega arith);
}
first-if false n names j c t r = record {
  name = r.name;
  place = suc r.place;
  first = ap (λ b. if b then Some n else first_spelt names c.text.0) t ∙ r.first;
  is = r.is;
  same = r.same;
  order = elim r.order [ inl e ↦ inl e | inr l ↦ inr (omega (arith, l)) ];
}

first-of : (names : List Name) (j : ℕ) (c : Name) → slice_get names j ≡ Some c → IsFirstOr names j c
first-of [] j c e = absurd (cc e)
first-of (n ∷ names) zero c e =
    let same : n ≡ c = cc e in
    let t : is_spelt c.text.0 n ≡ true = ap (λ (x : Name). is_spelt c.text.0 x) same ∙ number-self c.text.0 in
    record {
      name = n;
      place = 0;
      first = ap (λ b. if b then Some n else first_spelt names c.text.0) t;
      is = refl;
      same = ap (λ (x : Name). x.text.0) same;
      order = inl same;
    }
first-of (n ∷ names) (suc j) c e = first-if (is_spelt c.text.0 n) n names j c refl (first-of names j c e)

module _ (d : Declared) where
  hidden-breaks : (m : Method) → IsMethod d m → (s : Refusal) → Hides (first_spelt (constant_names d)) (variable_names m.locals) s → DeclarationBreaks d s
  hidden-breaks m is s h =
      let v = bearer (λ v. v.name) m.locals h.0 h.1 h.3.0 in
      let k = first-is-spelt (constant_names d) h.1.text.0 h.2 h.3.1.0 in
      let c = bearer (λ c. c.name) d.constants k.place h.2 k.is in
      let texts : v.item.name.text.0 ≡ c.item.name.text.0 = ap (λ (n : Name). n.text.0) v.same ∙ sym k.spelt ∙ sym (ap (λ (n : Name). n.text.0) c.same) in
      as-refused d s (later_of v.item.name c.item.name) (h.3.1.1 ∙ ap (λ n. later_of n h.2) (sym v.same) ∙ ap (λ n. later_of v.item.name n) (sym c.same))
      (rules.local_and_constant m v.item h.0 k.place c.item is v.is c.is (text-same v.item.name.text c.item.name.text texts))

  local-breaks : (m : Method) → IsMethod d m → (s : Refusal) → LocalCause (first_spelt (constant_names d)) d.texts (variable_names m.locals) s → DeclarationBreaks d s
  local-breaks m is s c = elim c [
    | inl a ↦ elim a [
      | inl r ↦ misnamed-breaks d (variable_names m.locals) (rules.locals m is) (in-locals d m is) s r
      | inr h ↦ hidden-breaks m is s h
    ]
    | inr r ↦
        let v = bearer (λ v. v.name) m.locals 256 r.0 r.1.0 in
        as-refused d s (record { rule = L7; at = v.item.name.at }) (r.1.1 ∙ ap (λ (n : Name). record { rule = L7; at = n.at }) (sym v.same)) (rules.too_many_locals m v.item is v.is)
  ]

  name-breaks : (s : Refusal) → NameCause d s → DeclarationBreaks d s
  name-breaks s c = elim c [
    | inl a ↦ elim a [
      | inl b ↦ elim b [
        | inl r ↦ repeated-breaks d d.statuses rules.statuses s r
        | inr r ↦ misnamed-breaks d (constant_names d) rules.constants (in-constants d) s r
      ]
      | inr r ↦ misnamed-breaks d (struct_names d) rules.structs (in-structs d) s r
    ]
    | inr r ↦ method-breaks d s r
  ]

  known-breaks : (s : Refusal) → Known d s → DeclarationBreaks d s
  known-breaks s c = elim c [
    | inl a ↦ elim a [
      | inl n ↦ name-breaks s n
      | inr e ↦ misnamed-breaks d (variable_names e.1.fields) (rules.fields e.1 (e.0, e.2.0)) (in-fields d e.1 (e.0, e.2.0)) s e.2.1
    ]
    | inr e ↦ elim e.2.1 [ inl r ↦ arg-breaks d e.1 (e.0, e.2.0) s r | inr r ↦ local-breaks e.1 (e.0, e.2.0) s r ]
  ]

  -- Each cause of the table is known to the passes, or one that decides over it.
  apart-known : (names : List Name) → AreApart d names → (s : Refusal) → RepeatsName names s → Known d s
  apart-known _ rules.statuses s r = inl (inl (inl (inl (inl r))))
  apart-known _ rules.constants s r = inl (inl (inl (inl (inr (inl r)))))
  apart-known _ rules.structs s r = inl (inl (inl (inr (inl r))))
  apart-known _ (rules.methods owner) s r = inl (inl (inr (inl (inl (inl (record { owner = owner; repeats = r }))))))
  apart-known _ (rules.fields t is) s r = inl (inr (is.0, t, (is.1, inl r)))
  apart-known _ (rules.args m is) s r = inr (is.0, m, (is.1, inl (inl (inl r))))
  apart-known _ (rules.locals m is) s r = inr (is.0, m, (is.1, inr (inl (inl (inl r)))))

  reserved-of : (names : List Name) (n : Name) → Named names n → is_reserved (text_of d n.text.0) ≡ true → ReservesName d.texts names (record { rule = N3; at = n.at })
  reserved-of names n h t = record { place = h.0; name = n; is = h.1; reserved = t; refused = refl }

  reserved-known : (i : ℕ) (n : Name) → slice_get (declared_names d) i ≡ Some n → is_reserved (text_of d n.text.0) ≡ true → Known d (record { rule = N3; at = n.at })
  reserved-known i n e t = elim (either-list (constant_names d) (struct_names d ++ (map (λ m. m.name) d.methods ++ (of_fields d ++ of_methods d))) i n e) [
    | inl h ↦ inl (inl (inl (inl (inr (inr (reserved-of (constant_names d) n h t))))))
    | inr b ↦ elim (either-list (struct_names d) (map (λ m. m.name) d.methods ++ (of_fields d ++ of_methods d)) b.0 n b.1) [
      | inl h ↦ inl (inl (inl (inr (inr (reserved-of (struct_names d) n h t)))))
      | inr b ↦ elim (either-list (map (λ m. m.name) d.methods) (of_fields d ++ of_methods d) b.0 n b.1) [
        | inl h ↦
            inl (inl (inr (inl (inl (inr (reserved-of (map (λ m. m.name) d.methods) n h t))))))
        | inr b ↦ elim (either-list (of_fields d) (of_methods d) b.0 n b.1) [
          | inl h ↦ let r = flat-out (λ s. variable_names s.fields) d.structs h.0 n h.1 in inl (inr (r.place, r.item, (r.is, inr (reserved-of (variable_names r.item.fields) n r.named t))))
          | inr h ↦
              let r = flat-out (λ m. variable_names m.args ++ variable_names m.locals) d.methods h.0 n h.1 in
              elim (either-list (variable_names r.item.args) (variable_names r.item.locals) r.named.0 n r.named.1) [
                | inl a ↦ inr (r.place, r.item, (r.is, inl (inl (inr (reserved-of (variable_names r.item.args) n a t)))))
                | inr l ↦ inr (r.place, r.item, (r.is, inr (inl (inl (inr (reserved-of (variable_names r.item.locals) n l t))))))
              ]
        ]
      ]
    ]
  ]

  abbrev Covered : Refusal → Type 0
  Covered s = (t : Refusal) × (Known d t × (is_before s t ≡ false))

  covers : (s : Refusal) → Known d s → Covered s
  covers s k = (s, (k, is_before-self s))

  method-name-at : (i : ℕ) (m : Method) → slice_get d.methods i ≡ Some m → slice_get (map (λ m. m.name) d.methods) i ≡ Some m.name
  method-name-at = borne (λ m. m.name) d.methods

later-covered : (v c : Name) → is_before (later_of v c) (twice c) ≡ false
later-covered v c = by_order (is_before (twice v) (twice c)) refl
  where
    by_order : (b : Bool) → is_before (twice v) (twice c) ≡ b → is_before (if b then twice c else twice v) (twice c) ≡ false
    by_order true e = is_before-self (twice c)
    by_order false e = e

module _ (d : Declared) where
  hidden-covered : (m : Method) (v : Variable) (i j : ℕ) (c : Constant) → IsMethod d m → slice_get m.locals i ≡ Some v → slice_get d.constants j ≡ Some c
      → v.name.text ≡ c.name.text → Covered d (later_of v.name c.name)
  hidden-covered m v i j c is ev ec same =
      let listed = borne (λ c. c.name) d.constants j c ec in
      let first = first-of (constant_names d) j c.name listed in
      elim first.order [
        | inl e ↦
            let got : first_spelt (constant_names d) v.name.text.0 ≡ Some c.name =
            ap (λ (t : TextId). first_spelt (constant_names d) t.0) same ∙ first.first ∙ ap (λ n. Some n) e in
            covers d (later_of v.name c.name) (inr (is.0, m, (is.1, inr (inl (inr (i, v.name, c.name, (borne (λ v. v.name) m.locals i v ev, (got, refl))))))))
        | inr l ↦
            let repeated : IsRepeated (constant_names d) c.name =
            record { first = first.place; second = j; earlier = first.name; order = l; at_first = first.is; at_second = listed; same = text-same first.name.text c.name.text first.same } in
            (twice c.name, (apart-known d (constant_names d) rules.constants (twice c.name) (c.name, (repeated, refl)), later-covered v.name c.name))
      ]

  breaks-covered : (s : Refusal) → DeclarationBreaks d s → Covered d s
  breaks-covered _ (rules.declared_twice names later apart r) = covers d (twice later) (apart-known d names apart (twice later) (later, (r, refl)))
  breaks-covered _ (rules.local_and_constant m v i j c is ev ec same) = hidden-covered m v i j c is ev ec same
  breaks-covered _ (rules.reserved_name i name e t) = covers d (record { rule = N3; at = name.at }) (reserved-known d i name e t)
  breaks-covered _ (rules.initialize m is t) =
      covers d (record { rule = N3; at = m.name.at })
      (inl (inl (inr (inl (inr (record { place = is.0; name = m.name; is = method-name-at d is.0 m is.1; initialize = t; refused = refl }))))))
  breaks-covered _ (rules.too_many_methods m e) = covers d (record { rule = L6; at = m.name.at }) (inl (inl (inr (inr (m.name, (method-name-at d 1024 m e, refl))))))
  breaks-covered _ (rules.too_many_locals m v is e) =
      covers d (record { rule = L7; at = v.name.at }) (inr (is.0, m, (is.1, inr (inr (v.name, (borne (λ v. v.name) m.locals 256 v e, refl))))))
  breaks-covered _ (rules.too_many_args m v is e) =
      covers d (record { rule = L7; at = v.name.at }) (inr (is.0, m, (is.1, inl (inr (v.name, (borne (λ v. v.name) m.args 64 v e, refl))))))

-- The first refusal of some causes is that of more, where before each of these stands one of the others.
not-before : (r s t : Refusal) → is_before t r ≡ false → is_before s t ≡ false → is_before s r ≡ false
not-before r s t p q = by_order (is_before s r) refl
  where
    first_of_two : (t u : Refusal) → is_before u t ≡ false → IsFirst (λ w. (w ≡ t) ⊎ (w ≡ u)) t
    first_of_two t u e = record {
      breaks = inl refl;
      first = λ w c. elim c [
        | inl k ↦ let P : Refusal → Type 0 = λ x. is_before x t ≡ false in subst P (sym k) (is_before-self t)
        | inr k ↦ let P : Refusal → Type 0 = λ x. is_before x t ≡ false in subst P (sym k) e
      ];
    }

    turned : (t u : Refusal) → IsFirst (λ w. (w ≡ t) ⊎ (w ≡ u)) t → IsFirst (λ w. (w ≡ u) ⊎ (w ≡ t)) t
    turned t u h = record { breaks = inr refl; first = λ w c. elim c [ inl k ↦ h.first w (inr k) | inr k ↦ h.first w (inl k) ] }

    by_order : (b : Bool) → is_before s r ≡ b → is_before s r ≡ false
    by_order false e = e
    by_order true e =
        let back : is_before t s ≡ false = is_before-over r s t e p in
        let same : s ≡ t = IsFirst-same (λ w. (w ≡ s) ⊎ (w ≡ t)) s t (first_of_two s t back) (turned t s (first_of_two t s q)) in
        let P : Refusal → Type 0 = λ x. is_before x r ≡ false in subst P (sym same) p

covered-decides : (P Q : Refusal → Type 0) (found : Option Refusal) → ((s : Refusal) → P s → Q s) → ((s : Refusal) → Q s → (t : Refusal) × (P t × (is_before s t ≡ false)))
    → Decides P found → Decides Q found
covered-decides P Q None to cover h = λ s q. let c = cover s q in h c.0 c.1.0
covered-decides P Q (Some r) to cover h = record {
  breaks = to r h.breaks;
  first = λ s q. let c = cover s q in not-before r s c.0 (h.first c.0 c.1.0) c.1.1;
}

-- After all passes it is the first refusal of what was found before and what the declarations break.
pub declarations-decide : (d : Declared) (P : Refusal → Type 0) (found : Option Refusal) → Decides P found → Decides (λ s. P s ⊎ DeclarationBreaks d s) (declarations_found d found)
declarations-decide d P found h =
    covered-decides (λ s. P s ⊎ Known d s) (λ s. P s ⊎ DeclarationBreaks d s) (declarations_found d found)
    (λ s c. elim c [ inl p ↦ inl p | inr k ↦ inr (known-breaks d s k) ])
    (λ s c. elim c [ inl p ↦ (s, (inl p, is_before-self s)) | inr b ↦ let k = breaks-covered d s b in (k.0, (inr k.1.0, k.1.1)) ])
    (known-added d P found h)

pub declarations-exact : (d : Declared) → Decides (DeclarationBreaks d) (declarations_found d None)
declarations-exact d =
    Decides-map (λ s. ⊥ ⊎ DeclarationBreaks d s) (DeclarationBreaks d) (declarations_found d None) (λ s c. elim c [ inl none ↦ absurd none | inr b ↦ b ]) (λ s b. inr b)
    (declarations-decide d (λ s. ⊥) None (λ s none. none))
