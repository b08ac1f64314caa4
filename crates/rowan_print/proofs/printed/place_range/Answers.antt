use Rattle.std.proofs.Common.{◌≡◌, ℕ, ◌+◌, ◌-◌, ◌≤◌, ◌<◌, ◌^◌, List, ◌∷◌, ◌++◌, length, length-set}
use Rattle.std.proofs.Common.{drop, set, decimal, IsAscii, arith, sym, subst}
use Rattle.std.proofs.lemmas.Fmt.{length-decimal-le}
use Rattle.std.proofs.lemmas.List.{drop-set}
use Rattle.rowan_print.proofs.QuoteLemmas.{range-ascii}
use Rattle.rowan_print.proofs.printed.place_range.Goals as goal

short : (n : ℕ) → n < 2 ^ 32 → length (decimal n) ≤ 10
short n h = length-decimal-le 10 n (omega arith) (omega arith) (omega arith)

placed : (first second third : List ℕ) (e s start end start_too end_too : ℕ) → start_too ≡ start
    → end_too ≡ end → 2 ≤ e → e ≤ length second → 1 ≤ s → s ≤ length third
    → drop e second ≡ decimal end_too ++ drop 23 first
    → drop s third ≡ decimal start_too ++ drop (e - 2) (set (set second (e - 1) 46) (e - 2) 46)
    → drop (s - 1) (set third (s - 1) 64)
    ≡ 64 ∷ (decimal start ++ 46 ∷ 46 ∷ (decimal end ++ drop 23 first))
placed first second third e s start end start_too end_too st en e2 inside s1 inside_too w1 w2 =
    let here : e - 1 + 1 ≡ e = omega arith in
    let before : e - 2 + 1 ≡ e - 1 = omega arith in
    let there : s - 1 + 1 ≡ s = omega arith in
    rw (
      drop-set third (s - 1) 64 (omega arith),
      there,
      w2,
      drop-set (set second (e - 1) 46) (e - 2) 46 (omega (arith, length-set second (e - 1) 46)),
      before,
      drop-set second (e - 1) 46 (omega arith),
      here,
      w1,
      st,
      en,
    )

pub write_digits-end-requires : goal.write_digits-end-requires
write_digits-end-requires c = (omega (arith, short c.from-2.result (omega arith)), c.requires)

pub overflow_sub-room : goal.overflow_sub-room
overflow_sub-room c = omega (arith, short c.from-2.result (omega arith))

pub overflow_sub-room-2 : goal.overflow_sub-room-2
overflow_sub-room-2 c = omega (arith, short c.from-2.result (omega arith))

pub overflow_sub-end : goal.overflow_sub-end
overflow_sub-end c = omega (arith, short c.from-2.result (omega arith))

pub write_digits-start-requires : goal.write_digits-start-requires
write_digits-start-requires c =
    let b = c.write_digits-end.new.buf in
    let e = c.write_digits-end.result in (
      omega (arith, short c.from-2.result (omega arith), short c.from-4.result (omega arith)),
      omega (arith, length-set b (e - 1) 46, length-set (set b (e - 1) 46) (e - 2) 46),
    )

pub overflow_sub-room-3 : goal.overflow_sub-room-3
overflow_sub-room-3 c = omega (
  arith,
  short c.from-2.result (omega arith),
  short c.from-4.result (omega arith),
)

pub overflow_sub-result : goal.overflow_sub-result
overflow_sub-result c = omega (
  arith,
  short c.from-2.result (omega arith),
  short c.from-4.result (omega arith),
)

pub returns-clause-written : goal.returns-clause-written
returns-clause-written c =
    let e = c.write_digits-end in
    let s = c.write_digits-start in
    let here = short c.from-2.result (omega arith) in
    let there = short c.from-4.result (omega arith) in
    placed c.args.room.now e.new.buf s.new.buf e.result s.result c.args.range.start c.args.range.end
    c.from-4.result c.from-2.result (omega arith) (omega arith) (omega arith) (omega arith)
    (omega arith)
    (omega (
      arith,
      length-set e.new.buf (e.result - 1) 46,
      length-set (set e.new.buf (e.result - 1) 46) (e.result - 2) 46,
    )) e.ensures.written
    s.ensures.written

pub returns-clause-ascii : goal.returns-clause-ascii
returns-clause-ascii c = λ ascii.
    subst IsAscii (sym (returns-clause-written c))
    (range-ascii c.args.range.start c.args.range.end _ (omega arith) (omega arith) ascii)
