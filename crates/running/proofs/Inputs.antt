-- Bytes that are read behind the first ones, and an input that is read to its end.
use Rattle.std.proofs.Common.{◌≡◌, refl, ◌≤◌, ◌<◌, ◌+◌, ◌-◌, ◌^◌, ℕ, zero, suc, List, [], ◌∷◌, ◌++◌, length, take, drop, arith, length-append, IfOk, Result}
use Rattle.std.specs.Prelude.{Option, Ok, Err, min}
use Rattle.std.specs.Io.{ReadsAtMost}
use Rattle.std.specs.Io.KnownBytes.{ReadConsumes, IsAtEnd}
use Rattle.std.proofs.KnownBytes.{Consumes-trans, Consumes-whole}
use Rattle.std.proofs.lemmas.List.{length-drop, length-take, length-take-le, take-append-le, take_min}
use Rattle.std.proofs.Math.Seq.{take-append-add, take-length}
use borrow.Rule.Slice.PartMut.{put_mid}
use Rattle.running.specs.Input.{HoldsInput, HoldsRead, ReadsOn}

take_whole : (n : ℕ) (xs : List ℕ) → length xs ≤ n → take n xs ≡ xs
take_whole n xs short =
    let least : min n (length xs) ≡ length xs = omega (arith, short) in
    let cut = take_min n xs in
    let whole = take-length xs in cc

-- what is cut off first is not missed
take-take-append : (n : ℕ) (xs ys : List ℕ) → take n (take n xs ++ ys) ≡ take n (xs ++ ys)
take-take-append zero xs ys = refl
take-take-append (suc n) [] ys = refl
take-take-append (suc n) (x ∷ xs) ys = let rest = take-take-append n xs ys in cc

-- the first n of the bytes that were put into a list from a on
take-put_mid_more : (a n : ℕ) (xs ys : List ℕ) → a < length xs → length ys ≤ length xs - a → n ≤ length ys
    → take (a + n) (put_mid a (length xs - a) xs ys) ≡ take (length xs) (take a xs ++ take n ys)
take-put_mid_more a n xs ys below short some =
    let rest = drop (length xs - a) (drop a xs) in
    let before = length-take-le a xs (omega arith) in
    let joined = take-append-add (take a xs) (ys ++ rest) n in
    let cut = take-append-le n ys rest some in
    let fits : length (take a xs ++ take n ys) ≤ length xs = omega (arith, length-append (take a xs) (take n ys), length-take-le n ys some, before, below, short, some) in
    let whole = take_whole (length xs) (take a xs ++ take n ys) fits in cc

-- a read into the room behind the first bytes
pub read_behind : {E : Type 0} (old new : Option (List ℕ)) (r : Result ℕ E) (a : ℕ) (xs ys : List ℕ)
    → a < length xs → length ys ≡ length (take (length xs - a) (drop a xs)) → ReadsAtMost r ys → ReadConsumes old new r ys
    → IfOk r (ReadsOn old new xs (put_mid a (length xs - a) xs ys) a)
read_behind old new (Ok n) a xs ys below long (some, _) (gone, end) =
    let short : length ys ≤ length xs - a = omega (arith, long, length-take (length xs - a) (drop a xs)) in
    let room : 0 < length ys = omega (arith, long, below, length-take (length xs - a) (drop a xs), length-drop a xs) in
    (take n ys, length-take-le n ys some, gone, (λ none. end none room), take-put_mid_more a n xs ys below short some)
read_behind old new (Err e) a xs ys below long some read = tt

pub read_more : (old now new : Option (List ℕ)) (before after : List ℕ) (n more m : ℕ) → length after ≡ length before → length before < 2 ^ 64
    → m ≡ min (n + more) (2 ^ 64 - 1) → HoldsRead old now before n → ReadsOn now new before after n more → HoldsRead old new after m
read_more old now new before after n more m same small sum (read, count, left, held) (on, counted, gone, end, put) =
    let joined = length-append read on in
    let cut = take_min m after in
    let whole = take_min (n + more) after in
    let least : min m (length after) ≡ min (n + more) (length after) = omega (arith, same, small, sum) in
    let fits = take-take-append (length before) read on in
    (read ++ on, omega (arith, joined, count, counted, sum), Consumes-trans _ _ _ _ _ left gone, cc)

pub read_all : (known new : Option (List ℕ)) (file : List ℕ) (n : ℕ) → HoldsRead known new file n → IsAtEnd new → HoldsInput known file n
read_all known new file n (read, count, left, held) end =
    Consumes-whole _ _ _ (λ input. (n ≡ min (length input) (2 ^ 64 - 1)) × (take n file ≡ take (length file) input)) left end (count, held)
