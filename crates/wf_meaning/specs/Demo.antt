-- The package `demo`, a parser of decimal numbers, as a tree. Its file is:
--
--     pub status "#not a digit"
--     pub status "#too large"
--     pub struct parser?(
--         val : base.u32,
--     )
--     pub func parser.value() base.u32 {
--         return this.val
--     }
--     pub func parser.parse?(src: base.io_reader) {
--         var c : base.u8
--         while true {
--             c = args.src.read_u8?()
--             if c == 0 {
--                 return ok
--             }
--             if (c < 0x30) or (0x39 < c) {
--                 return "#not a digit"
--             }
--             c -= 0x30
--             if this.val < 429_496729 {
--                 this.val = (10 * this.val) + (c as base.u32)
--                 continue
--             } else if (this.val > 429_496729) or (c > 5) {
--                 return "#too large"
--             }
--             this.val = (10 * this.val) + (c as base.u32)
--         } endwhile
--     }
use Rattle.std.specs.Prelude.{ℕ, true, false, [], ◌∷◌, ◌++◌, None, Some, codes}
use Rattle.wf_text.specs.Surface.{Surface}
use Rattle.wf_text.specs.Surface as surface
use Rattle.wf_base.specs.declared.marks.Mark.TheVariants.{Pure, Coroutine}
use Rattle.wf_base.specs.declared.base_methods.ReadForm.TheVariants.{ReadU8}
use Rattle.wf_ast.specs.declared.types.Ty.TheVariants as types
use Rattle.wf_ast.specs.TypedTree.{local, field, plus, minus, times, less, equal, greater, NumTree, number, read, link, convert, truth, compare, junction, status, numeric, state, to_number, take_number, Simple, assign, await, continue_in, give_back, Block, end, plain, choose, loop}
use Rattle.wf_ast.specs.TypedPackage.{PackageTree}
use Rattle.wf_ast.specs.BaseStatuses.{base_statuses}
use Rattle.wf_meaning.specs.Examples.{on, site, byte_type, word_type, byte_ty, word_ty, variable}

abbrev val : (line col : ℕ) → NumTree
val line col = read (on line col) word_type (field 0)

abbrev digit : (line col : ℕ) → NumTree
digit line col = read (on line col) byte_type (local 0)

-- `this.val = (10 * this.val) + (c as base.u32)`
abbrev next_val : (line col : ℕ) → (ten val_col sum_sign digit_col as_sign times_sign : ℕ) → Simple
next_val line col ten val_col sum_sign digit_col as_sign times_sign =
    assign (to_number (on line col) word_type (field 0)) None (numeric (link (on line sum_sign) (on line sum_sign) plus 32 false
    (link (on line times_sign) (on line times_sign) times 32 false (number (on line ten) 10) (val line val_col))
    (convert (on line as_sign) (on line as_sign) 32 (digit line digit_col))))

abbrev pub parse_loop : Block
parse_loop =
    plain (site 1 12 9) (await (on 12 22) (to_number (on 12 9) byte_type (local 0)) 0 (take_number ReadU8))
    (choose (site 3 13 9) false (compare (on 13 14) (on 13 14) (digit 13 12) equal (number (on 13 17) 0))
    (plain (site 2 14 13) (give_back (Some (state (status (on 14 20) 0)))) end) end
    (choose (site 5 16 9) false
    (junction (on 16 24) false false
    (compare (on 16 15) (on 16 15) (digit 16 13) less (number (on 16 17) 48))
    (compare (on 16 33) (on 16 33) (number (on 16 28) 57) less (digit 16 35)))
    (plain (site 4 17 13) (give_back (Some (state (status (on 17 20) 10)))) end) end
    (plain (site 6 19 9) (assign (to_number (on 19 9) byte_type (local 0)) (Some minus)
    (numeric (link (on 19 11) (on 19 11) minus 8 false (digit 19 9) (number (on 19 14) 48))))
    (choose (site 10 20 9) false (compare (on 20 21) (on 20 21) (val 20 12) less (number (on 20 23) 429496729))
    (plain (site 7 21 13) (next_val 21 13 25 30 40 43 45 28) (plain (site 8 22 13) (continue_in 12) end))
    (choose (site 10 20 9) true
    (junction (on 23 44) false false
    (compare (on 23 29) (on 23 29) (val 23 20) greater (number (on 23 31) 429496729))
    (compare (on 23 50) (on 23 50) (digit 23 48) greater (number (on 23 52) 5)))
    (plain (site 9 24 13) (give_back (Some (state (status (on 24 20) 11)))) end) end end)
    (plain (site 11 26 9) (next_val 26 9 21 26 36 39 41 24) end)))))

abbrev pub demo : PackageTree
demo =
    record { package_name = codes "demo"; statuses = base_statuses ++ (codes "#demo: not a digit" ∷ codes "#demo: too large" ∷ []); structs = record { name = codes "parser"; public = true; fields = variable (codes "val") word_ty ∷ [] } ∷ []; methods = record { name = codes "value"; of = 0; public = true; mark = Pure; args = []; locals = []; gives = Some word_ty; body = plain (site 0 7 5) (give_back (Some (numeric (val 7 12)))) end } ∷ record { name = codes "parse"; of = 0; public = true; mark = Coroutine; args = variable (codes "src") types.Reader ∷ []; locals = variable (codes "c") byte_ty ∷ []; gives = None; body = loop (site 12 11 5) (record { cond = truth (on 11 11) true; clauses = []; is_left = false; close = on 27 5 }) parse_loop end } ∷ []; order = 0 ∷ 1 ∷ []; struct_order = 0 ∷ [] }

-- What a host knows of it.
abbrev pub demo_surface : Surface
demo_surface =
    record { package_name = codes "demo"; statuses = base_statuses ++ (codes "#demo: not a digit" ∷ codes "#demo: too large" ∷ []); structs = record { number = 0; name = codes "parser"; methods = record { number = 0; name = codes "value"; args = []; answers = surface.numeric 32 } ∷ record { number = 1; name = codes "parse"; args = record { name = codes "src"; kind = surface.reader } ∷ []; answers = surface.status } ∷ [] } ∷ [] }
