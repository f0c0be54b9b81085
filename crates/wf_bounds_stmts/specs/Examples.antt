-- Packages of the worked examples, each with its text, and packages next to them that are refused.
use Rattle.std.specs.Prelude.{ℕ, ◌+◌, Bool, true, false, List, [], ◌∷◌, ◌++◌, Option, None, Some, codes}
use Rattle.wf_text.specs.declared.place.Place.{Place}
use Rattle.wf_text.specs.declared.rules.Rule.{Rule}
use Rattle.wf_text.specs.declared.rules.Refusal.{Refusal}
use Rattle.wf_base.specs.declared.marks.Mark.{Mark}
use Rattle.wf_base.specs.declared.marks.Mark.TheVariants.{Pure, Impure, Coroutine}
use Rattle.wf_base.specs.declared.widths.Width.TheVariants.{W8, W32}
use Rattle.wf_base.specs.declared.base_methods.ReadForm.TheVariants.{ReadU8}
use Rattle.wf_base.specs.declared.base_methods.PeekForm.TheVariants.{PeekU8}
use Rattle.wf_ast.specs.declared.parsed.Clause.TheVariants.{Pre, Inv, Post}
use Rattle.wf_ast.specs.declared.types.Ty.{Ty}
use Rattle.wf_ast.specs.declared.types.Ty.TheVariants as types
use Rattle.wf_ast.specs.TypedTree.{local, field, arg, NumType, plus, minus, times, divided, less, at_most, equal, differs, at_least, greater, NumTree, number, read, link, convert, asked, reader_length, peek, array, CondTree, truth, compare, junction, status, numeric, state, to_number, to_element, to_nothing, take_number, skip_fast, Simple, assign, await, perform, break_from, continue_in, give_back, claim, Site, Block, end, plain, choose, loop, own, invoke}
use Rattle.wf_ast.specs.TypedPackage.{Variable, MethodTree, PackageTree}
use Rattle.wf_ast.specs.BaseStatuses.{base_statuses}
use Rattle.wf_facts_exprs.specs.Claims.{Claim, compared, single}
use Rattle.wf_bounds_stmts.specs.MethodRules.{methods_refusal, front_in_methods}

-- A place in the only file, a statement there, and types without bounds.
abbrev pub on : (line col : ℕ) → Place
on line col = record { file = 0; line = line; col = col }

abbrev site : (n line col : ℕ) → Site
site n line col = record { number = n; at = on line col }

abbrev byte_type : NumType
byte_type = record { bits = 8; low = 0; high = 255 }

abbrev word_type : NumType
word_type = record { bits = 32; low = 0; high = 4294967295 }

abbrev byte_ty : Ty
byte_ty = types.Num W8 0 255

abbrev word_ty : Ty
word_ty = types.Num W32 0 4294967295

abbrev variable : List ℕ → Ty → Variable
variable name ty = record { name = name; ty = ty }

-- A package of one struct with one method.
abbrev pub with_method : (fields : List Variable) → Mark → (args locals : List Variable) → (gives : Option Ty) → Block → PackageTree
with_method fields mark args locals gives body =
    record { package_name = codes "s"; statuses = base_statuses; structs = record { name = codes "s"; public = true; fields = fields } ∷ []; methods = record { name = codes "f"; of = 0; public = true; mark = mark; args = args; locals = locals; gives = gives; body = body } ∷ []; order = 0 ∷ []; struct_order = 0 ∷ [] }

-- What is refused, where the names of locals stand at this place.
abbrev pub refusal_of : (local_at : Place) → PackageTree → Option Refusal
refusal_of here p = methods_refusal (λ m n. here) p 0 p.methods

-- What the rules of facts refuse of a package, in which no axiom stands.
abbrev pub refused : PackageTree → Option Refusal
refused p = refusal_of (on 3 9) p

abbrev pub refusal : Rule → (line col : ℕ) → Option Refusal
refusal rule line col = Some (record { rule = rule; at = on line col })

--     pub struct h()
--     pub func h.f() base.u8 {
--         return 300
--     }
abbrev pub returning : ℕ → PackageTree
returning n = with_method [] Pure [] [] (Some byte_ty) (plain (site 0 3 5) (give_back (Some (numeric (number (on 3 12) n)))) end)

--     pub struct r()
--     pub func r.f(a: base.u8, b: base.u8) base.u8 {
--         if args.a >= args.b {
--             return args.a - args.b
--         }
--         return args.a - args.b
--     }
abbrev a_at : (line col : ℕ) → NumTree
a_at line col = read (on line col) byte_type (arg 0)

abbrev b_at : (line col : ℕ) → NumTree
b_at line col = read (on line col) byte_type (arg 1)

abbrev a_less_b : (line col : ℕ) → Simple
a_less_b line col = give_back (Some (numeric (link (on line (col + 7)) (on line (col + 7)) minus 8 false (a_at line col) (b_at line (col + 9)))))

abbrev pub difference : (last : Simple) → PackageTree
difference last =
    with_method [] Pure (variable (codes "a") byte_ty ∷ variable (codes "b") byte_ty ∷ []) [] (Some byte_ty)
    (choose (site 1 3 5) false (compare (on 3 15) (on 3 15) (a_at 3 8) at_least (b_at 3 18)) (plain (site 0 4 9) (a_less_b 4 16) end) end
    (plain (site 2 6 5) last end))

abbrev pub again_the_difference : Simple
again_the_difference = a_less_b 6 12

abbrev pub nothing_left : Simple
nothing_left = give_back (Some (numeric (number (on 6 12) 0)))

--     pub struct t!(
--         buf : array[4] base.u8,
--     )
--     pub func t.fill!() {
--         var i : base.u32
--         while i < 4,
--             inv i <= 4,
--         {
--             this.buf[i] = 7
--             i += 1
--         } endwhile
--     }
abbrev i_at : (line col : ℕ) → NumTree
i_at line col = read (on line col) word_type (local 0)

abbrev one_more : (line col : ℕ) → Simple
one_more line col =
    assign (to_number (on line col) word_type (local 0)) (Some plus) (numeric (link (on line (col + 2)) (on line (col + 2)) plus 32 false (i_at line col) (number (on line (col + 5)) 1)))

abbrev pub filling : (promise : CondTree) → PackageTree
filling promise =
    with_method (variable (codes "buf") (types.Array W8 0 255 4) ∷ []) Impure [] (variable (codes "i") word_ty ∷ []) None
    (loop (site 2 6 5) (record { cond = compare (on 6 13) (on 6 13) (i_at 6 11) less (number (on 6 15) 4); clauses = (Inv, promise) ∷ []; is_left = false; close = on 11 5 })
    (plain (site 0 9 9) (assign (to_element (on 9 17) byte_type (array (on 9 9) byte_type 4 (field 0)) (i_at 9 18)) None (numeric (number (on 9 23) 7)))
    (plain (site 1 10 9) (one_more 10 9) end)) end)

abbrev pub at_most_4 : CondTree
at_most_4 = compare (on 7 15) (on 7 15) (i_at 7 13) at_most (number (on 7 18) 4)

abbrev pub below_4 : CondTree
below_4 = compare (on 7 15) (on 7 15) (i_at 7 13) less (number (on 7 17) 4)

--     pub struct w()
--     pub func w.f() base.u32 {
--         var i : base.u32
--         while i < 10,
--             inv i <= 10,
--             post i >= 5,
--         {
--             i += 1
--         } endwhile
--         return i - 5
--     }
abbrev counting_with : (is_left : Bool) → Block → PackageTree
counting_with is_left body =
    with_method [] Pure [] (variable (codes "i") word_ty ∷ []) (Some word_ty)
    (loop (site 9 4 5) (record { cond = compare (on 4 13) (on 4 13) (i_at 4 11) less (number (on 4 15) 10); clauses = (Inv, compare (on 5 15) (on 5 15) (i_at 5 13) at_most (number (on 5 18) 10)) ∷ (Post, compare (on 6 16) (on 6 16) (i_at 6 14) at_least (number (on 6 19) 5)) ∷ []; is_left = is_left; close = on 9 5 })
    body
    (plain (site 10 10 5) (give_back (Some (numeric (link (on 10 14) (on 10 14) minus 32 false (i_at 10 12) (number (on 10 16) 5))))) end))

abbrev pub counting : PackageTree
counting = counting_with false (plain (site 0 8 9) (one_more 8 9) end)

-- The same with a `break` before `i += 1`.
abbrev pub breaking : PackageTree
breaking = counting_with true (plain (site 0 8 9) (break_from 9) (plain (site 1 9 9) (one_more 9 9) end))

--     pub struct f!()
--     pub func f.go!(src: base.io_reader) base.u32 {
--         var c : base.u8
--         if args.src.length() >= 2 {
--             args.src.skip_u32_fast!(actual: 1, worst_case: 1)
--             c = args.src.peek_u8()
--         }
--         return c as base.u32
--     }
abbrev pub peeking : (least : ℕ) → PackageTree
peeking least =
    with_method [] Impure (variable (codes "src") types.Reader ∷ []) (variable (codes "c") byte_ty ∷ []) (Some word_ty)
    (choose (site 2 4 5) false (compare (on 4 26) (on 4 26) (asked (on 4 17) reader_length 0) at_least (number (on 4 29) least))
    (plain (site 0 5 9) (perform (on 5 18) to_nothing (skip_fast 0 (number (on 5 41) 1) (number (on 5 56) 1)))
    (plain (site 1 6 9) (assign (to_number (on 6 9) byte_type (local 0)) None (numeric (asked (on 6 22) (peek PeekU8) 0))) end)) end
    (plain (site 3 8 5) (give_back (Some (numeric (convert (on 8 14) (on 8 14) 32 (read (on 8 12) byte_type (local 0)))))) end))

--     pub struct ax()
--     pub func ax.f(x: base.u32, width: base.u32, y: base.u32) base.u32 {
--         if args.x < args.width {
--             assert args.x < args.y via "a < b: a < c; c <= b"(c: args.width)
--         }
--         return 0
--     }
abbrev word_arg : (line col n : ℕ) → NumTree
word_arg line col n = read (on line col) word_type (arg n)

abbrev axiom_used : (line shift : ℕ) → Simple
axiom_used line shift =
    claim (compare (on line (shift + 23)) (on line (shift + 23)) (word_arg line (shift + 16) 0) less (word_arg line (shift + 25) 2))
    (Some (record { at = on line (shift + 36); text = codes "a < b: a < c; c <= b"; given = (codes "c", word_arg line (shift + 62) 1) ∷ [] }))

abbrev pub asserting : (inner : Block) → PackageTree
asserting inner =
    with_method [] Pure (variable (codes "x") word_ty ∷ variable (codes "width") word_ty ∷ variable (codes "y") word_ty ∷ []) [] (Some word_ty)
    (choose (site 2 3 5) false (compare (on 3 15) (on 3 15) (word_arg 3 8 0) less (word_arg 3 17 1)) inner end
    (plain (site 3 6 5) (give_back (Some (numeric (number (on 6 12) 0)))) end))

abbrev pub unfounded : Block
unfounded = plain (site 0 4 9) (axiom_used 4 0) end

-- The same inside `if args.width <= args.y`, with `return args.y - args.x` after it.
abbrev pub founded : Block
founded =
    choose (site 1 4 9) false (compare (on 4 23) (on 4 23) (word_arg 4 12 1) at_most (word_arg 4 26 2))
    (plain (site 0 5 13) (axiom_used 5 4)
    (plain (site 4 6 13) (give_back (Some (numeric (link (on 6 27) (on 6 27) minus 32 false (word_arg 6 20 2) (word_arg 6 29 0))))) end)) end end

-- The loop of the package `demo`, a parser of decimal numbers whose text stands in Demo.antt of wf_meaning: where the number is
-- largest, its last digit may be at most `most`, which is 5 in that text.
abbrev val : (line col : ℕ) → NumTree
val line col = read (on line col) word_type (field 0)

abbrev digit : (line col : ℕ) → NumTree
digit line col = read (on line col) byte_type (local 0)

abbrev next_val : (line col : ℕ) → (ten val_col sum_sign digit_col as_sign times_sign : ℕ) → Simple
next_val line col ten val_col sum_sign digit_col as_sign times_sign =
    assign (to_number (on line col) word_type (field 0)) None (numeric (link (on line sum_sign) (on line sum_sign) plus 32 false
    (link (on line times_sign) (on line times_sign) times 32 false (number (on line ten) 10) (val line val_col))
    (convert (on line as_sign) (on line as_sign) 32 (digit line digit_col))))

abbrev parse_loop : (most : ℕ) → Block
parse_loop most =
    plain (site 0 12 9) (await (on 12 22) (to_number (on 12 9) byte_type (local 0)) 0 (take_number ReadU8))
    (choose (site 2 13 9) false (compare (on 13 14) (on 13 14) (digit 13 12) equal (number (on 13 17) 0))
    (plain (site 1 14 13) (give_back (Some (state (status (on 14 20) 0)))) end) end
    (choose (site 4 16 9) false
    (junction (on 16 24) false false
    (compare (on 16 15) (on 16 15) (digit 16 13) less (number (on 16 17) 48))
    (compare (on 16 33) (on 16 33) (number (on 16 28) 57) less (digit 16 35)))
    (plain (site 3 17 13) (give_back (Some (state (status (on 17 20) 10)))) end) end
    (plain (site 5 19 9) (assign (to_number (on 19 9) byte_type (local 0)) (Some minus)
    (numeric (link (on 19 11) (on 19 11) minus 8 false (digit 19 9) (number (on 19 14) 48))))
    (choose (site 9 20 9) false (compare (on 20 21) (on 20 21) (val 20 12) less (number (on 20 23) 429496729))
    (plain (site 6 21 13) (next_val 21 13 25 30 40 43 45 28) (plain (site 7 22 13) (continue_in 11) end))
    (choose (site 9 20 9) true
    (junction (on 23 44) false false
    (compare (on 23 29) (on 23 29) (val 23 20) greater (number (on 23 31) 429496729))
    (compare (on 23 50) (on 23 50) (digit 23 48) greater (number (on 23 52) most)))
    (plain (site 8 24 13) (give_back (Some (state (status (on 24 20) 11)))) end) end end)
    (plain (site 10 26 9) (next_val 26 9 21 26 36 39 41 24) end)))))

abbrev pub parsing : (most : ℕ) → PackageTree
parsing most =
    record { package_name = codes "demo"; statuses = base_statuses ++ (codes "#demo: not a digit" ∷ codes "#demo: too large" ∷ []); structs = record { name = codes "parser"; public = true; fields = variable (codes "val") word_ty ∷ [] } ∷ []; methods = record { name = codes "value"; of = 0; public = true; mark = Pure; args = []; locals = []; gives = Some word_ty; body = plain (site 12 7 5) (give_back (Some (numeric (val 7 12)))) end } ∷ record { name = codes "parse"; of = 0; public = true; mark = Coroutine; args = variable (codes "src") types.Reader ∷ []; locals = variable (codes "c") byte_ty ∷ []; gives = None; body = loop (site 11 11 5) (record { cond = truth (on 11 11) true; clauses = []; is_left = false; close = on 27 5 }) (parse_loop most) end } ∷ []; order = 0 ∷ 1 ∷ []; struct_order = 0 ∷ [] }

-- What is known of a digit before line 19, where it stands for its character.
abbrev pub about_the_digit : List Claim
about_the_digit =
    compared (single (digit 13 12)) differs (single (number (on 13 17) 0))
    ∷ compared (single (digit 16 13)) at_least (single (number (on 16 17) 48))
    ∷ compared (single (digit 16 35)) at_most (single (number (on 16 28) 57))
    ∷ []

abbrev pub known_at : (statement : ℕ) → PackageTree → Option (List Claim)
known_at n p = front_in_methods (λ m n. on 10 9) p 0 p.methods n

-- Calls, of methods with bounds.
--
--     pub struct c!(
--         n : base.u32[..= 9],
--     )
--     pri func c.sum(a: base.u32[..= 9], b: base.u32[..= 9]) base.u32[..= 18] {
--         return args.a + args.b
--     }
--     pri func c.clear!() {
--         this.n = 0
--     }
--     pub func c.f!(k: base.u32[..= 9], m: base.u32) base.u32[..= 9] {
--         ..
--     }
abbrev bounded_type : (high : ℕ) → NumType
bounded_type high = record { bits = 32; low = 0; high = high }

abbrev bounded : (high : ℕ) → Ty
bounded high = types.Num W32 0 high

abbrev n_at : (line col : ℕ) → NumTree
n_at line col = read (on line col) (bounded_type 9) (field 0)

abbrev k_at : (line col : ℕ) → NumTree
k_at line col = read (on line col) (bounded_type 9) (arg 0)

abbrev m_at : (line col : ℕ) → NumTree
m_at line col = read (on line col) word_type (arg 1)

abbrev method : List ℕ → Mark → (args locals : List Variable) → (gives : Option Ty) → Block → MethodTree
method name mark args locals gives body = record { name = name; of = 0; public = true; mark = mark; args = args; locals = locals; gives = gives; body = body }

abbrev pub calling : (locals : List Variable) → Block → PackageTree
calling locals body =
    record { package_name = codes "c"; statuses = base_statuses; structs = record { name = codes "c"; public = true; fields = variable (codes "n") (bounded 9) ∷ [] } ∷ []; methods = method (codes "sum") Pure (variable (codes "a") (bounded 9) ∷ variable (codes "b") (bounded 9) ∷ []) [] (Some (bounded 18)) (plain (site 0 5 5) (give_back (Some (numeric (link (on 5 19) (on 5 19) plus 32 false (read (on 5 12) (bounded_type 9) (arg 0)) (read (on 5 21) (bounded_type 9) (arg 1)))))) end) ∷ method (codes "clear") Impure [] [] None (plain (site 1 8 5) (assign (to_number (on 8 5) (bounded_type 9) (field 0)) None (numeric (number (on 8 14) 0))) end) ∷ method (codes "f") Impure (variable (codes "k") (bounded 9) ∷ variable (codes "m") word_ty ∷ []) locals (Some (bounded 9)) body ∷ []; order = 0 ∷ 1 ∷ 2 ∷ []; struct_order = 0 ∷ [] }

abbrev returns_n : (n line : ℕ) → Block
returns_n n line = plain (site n line 5) (give_back (Some (numeric (n_at line 12)))) end

-- x = this.sum(b: .., a: ..), with a local x whose numbers are at most `high`
abbrev pub summing : (high : ℕ) → (a b : NumTree) → PackageTree
summing high a b =
    calling (variable (codes "x") (bounded high) ∷ [])
    (plain (site 2 12 5) (invoke (on 12 14) (to_number (on 12 5) (bounded_type high) (local 0)) false Pure (own 0) (numeric a ∷ numeric b ∷ [])) (returns_n 3 13))

abbrev pub in_bounds : (col : ℕ) → NumTree
in_bounds col = k_at 12 col

abbrev pub any_word : (col : ℕ) → NumTree
any_word col = m_at 12 col

-- if this.n > 0 { .. return this.n - 1 }, with or without this.clear!() before the return
abbrev less_one : (n line : ℕ) → Block
less_one n line = plain (site n line 9) (give_back (Some (numeric (link (on line 23) (on line 23) minus 32 false (n_at line 16) (number (on line 25) 1))))) end

abbrev guarded : Block → PackageTree
guarded inner =
    calling [] (choose (site 4 11 5) false (compare (on 11 15) (on 11 15) (n_at 11 8) greater (number (on 11 17) 0)) inner end (returns_n 5 14))

abbrev pub clearing : PackageTree
clearing = guarded (plain (site 2 12 9) (invoke (on 12 14) to_nothing false Impure (own 1) []) (less_one 3 13))

abbrev pub keeping : PackageTree
keeping = guarded (less_one 3 12)

-- assert args.k <= 9 or < 9
abbrev pub asserting_at_most : (most : ℕ) → PackageTree
asserting_at_most most =
    calling [] (plain (site 2 11 5) (claim (compare (on 11 19) (on 11 19) (k_at 11 12) at_most (number (on 11 22) most)) None) (returns_n 3 12))

-- while this.n > 0, pre args.m >= n { .. break }
abbrev pub entering : (least : ℕ) → PackageTree
entering least =
    calling [] (loop (site 3 11 5) (record { cond = compare (on 11 18) (on 11 18) (n_at 11 11) greater (number (on 11 20) 0); clauses = (Pre, compare (on 12 20) (on 12 20) (m_at 12 13) at_least (number (on 12 23) least)) ∷ []; is_left = true; close = on 15 5 })
    (plain (site 2 14 9) (break_from 3) end) (returns_n 4 16))

-- if this.n > 4 { x = .. } else { x = 2 }, and then return 9 / x
abbrev sets_x : (n line value : ℕ) → Block
sets_x n line value = plain (site n line 9) (assign (to_number (on line 9) (bounded_type 9) (local 0)) None (numeric (number (on line 13) value))) end

abbrev pub merging : (value : ℕ) → PackageTree
merging value =
    calling (variable (codes "x") (bounded 9) ∷ [])
    (choose (site 4 12 5) false (compare (on 12 15) (on 12 15) (n_at 12 8) greater (number (on 12 17) 4)) (sets_x 2 13 value) (sets_x 3 15 2)
    (plain (site 5 17 5) (give_back (Some (numeric (link (on 17 14) (on 17 14) divided 32 false (number (on 17 12) 9) (read (on 17 16) (bounded_type 9) (local 0)))))) end))
