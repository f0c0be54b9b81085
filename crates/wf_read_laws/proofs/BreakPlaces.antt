-- What a package breaks of the rules of names stands where its declarations stand, section by section.
use Rattle.std.proofs.Common.{ℕ, Bool, true, false, if◌then◌else◌, List, [], ◌∷◌, ◌++◌, map, sym, subst}
use Rattle.std.specs.List.{AllByRecursion, flat_map}
use Rattle.wf_text.specs.declared.place.Place.{Place}
use Rattle.wf_text.specs.declared.rules.Refusal.{Refusal}
use Rattle.wf_text.specs.Precedence.{is_before}
use Rattle.wf_ast.specs.declared.parsed.Name.{Name}
use Rattle.wf_ast.specs.ParsedTree as tree
use Rattle.wf_ast.specs.ParsedTree.{ExprTree, GivenTrees, CallTree}
use Rattle.wf_names_rules.specs.Declarations.{Variable, Structure, Method, Declared, is_spelt}
use Rattle.wf_names_rules.specs.Uses as uses
use Rattle.wf_names_rules.specs.Uses.{Use, Scope, sites}
use Rattle.wf_names_rules.specs.Meanings.{GivenValue, given_values, call_name, call_args}
use Rattle.wf_names_rules.specs.Jumps.{Jump, labelled, to_label, to_innermost, block_jumps}
use Rattle.wf_names_rules.specs.NameRules as rules
use Rattle.wf_names_rules.specs.NameRules.{twice, IsUsed, IsRepeated, variable_names, names_owned, IsStructure, IsMethod, AreApart, declared_names, Jumps, given_names, IsSizedHere, DeclarationBreaks, UseBreaks, LabelBreaks, CycleBreaks, SizeBreaks, Breaks}
use Rattle.wf_read_laws.specs.Places.{NameIsIn, PathIsIn, ExprIsIn, GivenAreIn, CallIsIn}
use Rattle.wf_read_laws.proofs.ListLemmas.{all-at, all-append, all-behind, all-mapped, all-flat}
use Rattle.wf_read_laws.proofs.DeclaredPlaces.{VariableIsIn, VariablesAreIn, ConstantIsIn, StructureIsIn, MethodIsIn, DeclaredIsIn}
use Rattle.wf_read_laws.proofs.UsePlaces.{UseIsIn, SiteIsIn, JumpIsIn, sites-are-in, block-jumps-in}

-- A value that is given, with its name.
abbrev GivenIsIn : (Place → Type 0) → GivenValue → Type 0
GivenIsIn In g = NameIsIn In g.name × ExprIsIn In g.value

module _ (In : Place → Type 0) where
  variable-names-in : (vs : List Variable) → VariablesAreIn In vs → AllByRecursion (NameIsIn In) (variable_names vs)
  variable-names-in vs a = all-mapped (NameIsIn In) (VariableIsIn In) (λ v. v.name) (λ v h. h.0) vs a

  given-in : (gs : GivenTrees) → GivenAreIn In gs → AllByRecursion (GivenIsIn In) (given_values gs)
  given-in tree.no_given h = tt
  given-in (tree.more_given name value others) h = ((h.0, h.1), given-in others h.2)

  args-in : (c : CallTree) → CallIsIn In c → AllByRecursion (GivenIsIn In) (call_args c)
  args-in (tree.call on name mark args) h = given-in args h.2

  call-name-in : (c : CallTree) → CallIsIn In c → NameIsIn In (call_name c)
  call-name-in (tree.call on name mark args) h = h.1

  given-names-in : (c : CallTree) → CallIsIn In c → AllByRecursion (NameIsIn In) (given_names c)
  given-names-in c h = all-mapped (NameIsIn In) (GivenIsIn In) (λ g. g.name) (λ g k. k.0) (call_args c) (args-in c h)

  -- Of two refusals that stand there the one that is taken does.
  either-in : (c : Bool) (r s : Refusal) → In r.at → In s.at → In (let t : Refusal = if c then r else s in t.at)
  either-in true r s h k = h
  either-in false r s h k = k

  module _ (d : Declared) (all : DeclaredIsIn In d) where
    structure-in : (s : Structure) → IsStructure d s → StructureIsIn In s
    structure-in s is = all-at (StructureIsIn In) d.structs is.0 s all.structs is.1

    method-in : (m : Method) → IsMethod d m → MethodIsIn In m
    method-in m is = all-at (MethodIsIn In) d.methods is.0 m all.methods is.1

    taken-in : (c : Bool) (name : Name) (names : List Name) → NameIsIn In name → AllByRecursion (NameIsIn In) names → AllByRecursion (NameIsIn In) (if c then name ∷ names else names)
    taken-in true name names h a = (h, a)
    taken-in false name names h a = a

    owned-in : (owner : ℕ) (ms : List Method) → AllByRecursion (MethodIsIn In) ms → AllByRecursion (NameIsIn In) (names_owned owner ms)
    owned-in owner [] a = tt
    owned-in owner (m ∷ ms) a = taken-in (is_spelt owner m.owner) m.name (names_owned owner ms) a.0.1 (owned-in owner ms a.1)

    apart-in : (names : List Name) → AreApart d names → AllByRecursion (NameIsIn In) names
    apart-in _ rules.statuses = all.statuses
    apart-in _ rules.constants = all-mapped (NameIsIn In) (ConstantIsIn In) (λ c. c.name) (λ c h. h.0) d.constants all.constants
    apart-in _ rules.structs = all-mapped (NameIsIn In) (StructureIsIn In) (λ s. s.name) (λ s h. h.0) d.structs all.structs
    apart-in _ (rules.methods owner) = owned-in owner d.methods all.methods
    apart-in _ (rules.fields s is) = variable-names-in s.fields (structure-in s is).1
    apart-in _ (rules.args m is) = variable-names-in m.args (method-in m is).2
    apart-in _ (rules.locals m is) = variable-names-in m.locals (method-in m is).4

    declared-names-in : AllByRecursion (NameIsIn In) (declared_names d)
    declared-names-in =
        let N : Name → Type 0 = NameIsIn In in
        let of_fields : List Name = flat_map (λ s. variable_names s.fields) d.structs in
        let of_methods : List Name = flat_map (λ m. variable_names m.args ++ variable_names m.locals) d.methods in
        let method_names : List Name = map (λ m. m.name) d.methods in
        let struct_names : List Name = map (λ s. s.name) d.structs in
        all-append N (map (λ c. c.name) d.constants) (struct_names ++ (method_names ++ (of_fields ++ of_methods)))
        (all-mapped N (ConstantIsIn In) (λ c. c.name) (λ c h. h.0) d.constants all.constants)
        (all-append N struct_names (method_names ++ (of_fields ++ of_methods))
        (all-mapped N (StructureIsIn In) (λ s. s.name) (λ s h. h.0) d.structs all.structs)
        (all-append N method_names (of_fields ++ of_methods)
        (all-mapped N (MethodIsIn In) (λ m. m.name) (λ m h. h.1) d.methods all.methods)
        (all-append N of_fields of_methods
        (all-flat N (StructureIsIn In) (λ s. variable_names s.fields) (λ s h. variable-names-in s.fields h.1) d.structs all.structs)
        (all-flat N (MethodIsIn In) (λ m. variable_names m.args ++ variable_names m.locals)
        (λ m h. all-append N (variable_names m.args) (variable_names m.locals) (variable-names-in m.args h.2) (variable-names-in m.locals h.4)) d.methods all.methods))))

    repeated-in : (names : List Name) (later : Name) → AllByRecursion (NameIsIn In) names → IsRepeated names later → In later.at
    repeated-in names later a r = all-at (NameIsIn In) names r.second later a r.at_second

    declarations-in : (s : Refusal) → DeclarationBreaks d s → In s.at
    declarations-in _ (rules.declared_twice names later apart r) = repeated-in names later (apart-in names apart) r
    declarations-in _ (rules.local_and_constant m v i j c is at_i at_j same) =
        let local = all-at (VariableIsIn In) m.locals i v (method-in m is).4 at_i in
        let constant = all-at (ConstantIsIn In) d.constants j c all.constants at_j in
        either-in (is_before (twice v.name) (twice c.name)) (twice c.name) (twice v.name) constant.0 local.0
    declarations-in _ (rules.reserved_name i name is kept) = all-at (NameIsIn In) (declared_names d) i name declared-names-in is
    declarations-in _ (rules.initialize m is spelt) = (method-in m is).1
    declarations-in _ (rules.too_many_methods m is) = (all-at (MethodIsIn In) d.methods 1024 m all.methods is).1
    declarations-in _ (rules.too_many_locals m v is at_most) = (all-at (VariableIsIn In) m.locals 256 v (method-in m is).4 at_most).0
    declarations-in _ (rules.too_many_args m v is at_most) = (all-at (VariableIsIn In) m.args 64 v (method-in m is).2 at_most).0

    used-in : (scope : Scope) (usage : Use) → IsUsed d scope usage → UseIsIn In usage
    used-in scope usage is = all-at (SiteIsIn In) (sites d) is.0 (record { scope = scope; usage = usage }) (sites-are-in In d all) is.1

    uses-in : (s : Refusal) → UseBreaks d s → In s.at
    uses-in _ (rules.unknown_status scope text is none) = used-in scope (uses.own_status text) is
    uses-in _ (rules.unknown_base_status scope text is none) = used-in scope (uses.base_status text) is
    uses-in _ (rules.unknown_variable scope path is none) = (used-in scope (uses.variable path) is).0
    uses-in _ (rules.unknown_struct scope name is none) = used-in scope (uses.structure name) is
    uses-in _ (rules.unknown_method scope made is none) = call-name-in made (used-in scope (uses.method made) is)
    uses-in _ (rules.given_twice scope made later is meant r) = repeated-in (given_names made) later (given-names-in made (used-in scope (uses.method made) is)) r
    uses-in _ (rules.passed_twice scope made at is meant p) =
        let given = all-at (GivenIsIn In) (call_args made) p.second p.later (args-in made (used-in scope (uses.method made) is)) p.at_second in
        let P : ExprTree → Type 0 = ExprIsIn In in
        let path : PathIsIn In p.path = subst P p.passed given.1 in
        subst In (sym p.here) path.1
    uses-in _ (rules.unknown_argument scope made i given is meant at_i none) = (all-at (GivenIsIn In) (call_args made) i given (args-in made (used-in scope (uses.method made) is)) at_i).0
    uses-in _ (rules.missing_argument scope made is meant lacks) = call-name-in made (used-in scope (uses.method made) is)
    uses-in _ (rules.foreign_method scope made is foreign) = call-name-in made (used-in scope (uses.method made) is)
    uses-in _ (rules.private_method scope made m is hidden) = call-name-in made (used-in scope (uses.method made) is)

    jump-at : (j : Jump) → Jumps d j → JumpIsIn In j
    jump-at j is = all-at (JumpIsIn In) (block_jumps [] is.0.body) is.1 j (block-jumps-in In [] is.0.body (method-in is.0 is.2.0).5) is.2.1

    labels-in : (s : Refusal) → LabelBreaks d s → In s.at
    labels-in _ (rules.label_twice loops label is has) = jump-at (labelled loops label) is
    labels-in _ (rules.reserved_label loops label is kept) = jump-at (labelled loops label) is
    labels-in _ (rules.unknown_label loops label is none) = jump-at (to_label loops label) is
    labels-in _ (rules.outside_loops at is) = jump-at (to_innermost [] at) is

    cycles-in : (s : Refusal) → CycleBreaks d s → In s.at
    cycles-in _ (rules.recursion a m is way) = (all-at (MethodIsIn In) d.methods a m all.methods is).1
    cycles-in _ (rules.holds_itself a s is way) = (all-at (StructureIsIn In) d.structs a s all.structs is).0

    sized-in : (locals : List Variable) (v : Variable) → IsSizedHere d locals v → In v.name.at
    sized-in _ _ (rules.field s i v is at_i) = (all-at (VariableIsIn In) s.fields i v (structure-in s is).1 at_i).0
    sized-in _ _ (rules.arg m i v is at_i) = (all-at (VariableIsIn In) m.args i v (method-in m is).2 at_i).0
    sized-in _ _ (rules.local m i v is at_i) = (all-at (VariableIsIn In) m.locals i v (method-in m is).4 at_i).0

    sizes-in : (s : Refusal) → SizeBreaks d s → In s.at
    sizes-in _ (rules.too_long_array locals v sized long) = sized-in locals v sized
    sizes-in _ (rules.too_large_struct s front back v n m is parts takes few more large) =
        let P : List Variable → Type 0 = VariablesAreIn In in
        let behind = all-behind (VariableIsIn In) front (v ∷ back) (subst P parts (structure-in s is).1) in
        behind.0.0

    pub breaks-in : (s : Refusal) → Breaks d s → In s.at
    breaks-in _ (rules.by_declaration s b) = declarations-in s b
    breaks-in _ (rules.by_use s b) = uses-in s b
    breaks-in _ (rules.by_label s b) = labels-in s b
    breaks-in _ (rules.by_cycle s b) = cycles-in s b
    breaks-in _ (rules.by_size s b) = sizes-in s b
