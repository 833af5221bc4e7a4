-- The definitions tried on values: document 01's console case, call by call, and the reader on its messages.
use mathlib.Core.Path.{◌≡◌, refl}
use mathlib.Core.List.{List, [], ◌∷◌}
use Prim.Native.Nat.{ℕ}
use lib.ListN.{replicate}
use Rattle.rules.specs.Desk.{names, rounded_up, need, needs, board_fits, request_fits, fresh}
use Rattle.rules.specs.Messages.{big_endian, layout, zero_places, zeros_stand, message, fields_fit}
use Rattle.rules.specs.Moments.{is_moment, moment, upto, moments, in_window, reached}
use Rattle.rules.specs.SharedList.{views, named, settled}
use Rattle.rules.specs.Refusals.{falls_from, falls, entry_fits, reply_need, disorder}
use Rattle.rules.specs.Calls.{reader_call, length_call, place_call, board_call, open_call, request_call, entry_words, blocks, StepOutcome, step_call}
use Rattle.rules.specs.Calls.Reply.{refused, accepted}
use Rattle.rules.specs.Edges.{board0, board1}
use Rattle.rules.specs.declared.Desk.{Desk}

-- the two boards, open, and the three requests
desk : Desk
desk =
    let loaded = (board_call (board_call fresh board0).desk board1).desk in
    let asked = (request_call (request_call (open_call loaded).desk 0 1 10).desk 0 2 20).desk in
    (request_call asked 1 3 99).desk

-- fourteen words of reply: the two boards may write 5 and 8
slice : List ℕ
slice = replicate 14 7

step_to6 : Desk → StepOutcome
step_to6 d = step_call d 6 slice

first : StepOutcome
first = step_to6 desk

second : StepOutcome
second = step_to6 first.desk

third : StepOutcome
third = step_to6 second.desk

console_case :
    (first.reply ≡ accepted (record { clock = 3; due = 1; words = 8 }))
    × (first.slice ≡ 1 ∷ 2 ∷ 2 ∷ 20 ∷ 0 ∷ 1 ∷ 10 ∷ 0 ∷ replicate 6 7)
    × (second.reply ≡ accepted (record { clock = 4; due = 1; words = 5 }))
    × (second.slice ≡ 0 ∷ 1 ∷ 2 ∷ 20 ∷ 0 ∷ replicate 9 7)
    × (third.reply ≡ accepted (record { clock = 6; due = 1; words = 8 }))
    × (third.slice ≡ 1 ∷ 2 ∷ 2 ∷ 20 ∷ 0 ∷ 1 ∷ 10 ∷ 0 ∷ replicate 6 7)
    × ((step_call third.desk 5 slice).reply ≡ refused 11)
    × (length_call third.desk ≡ accepted 1)
    × (place_call third.desk 0 ≡ accepted (record { id = 2; score = 20; tick = 0; topic = 0 }))
    × (place_call third.desk 1 ≡ refused 13)
unfolding first second third step_to6 slice desk fresh board_call open_call request_call step_call length_call place_call
    disorder board_fits needs need rounded_up falls falls_from entry_fits request_fits reply_need reached moment upto is_moment
    moments in_window names views named settled blocks entry_words
console_case = (refl, refl, refl, refl, refl, refl, refl, refl, refl, refl)

-- the head of a message of version 1, and messages that end in each of the reader's refusals
head : ℕ → ℕ → List ℕ → List ℕ
head kind byte numbers = 68 ∷ 84 ∷ 82 ∷ 0 ∷ 1 ∷ kind ∷ byte ∷ 0 ∷ numbers

zeros12 : List ℕ
zeros12 = replicate 12 0

reader_case :
    (reader_call (head 1 255 (0 ∷ 1 ∷ 81 ∷ 128 ∷ 0 ∷ 0 ∷ 0 ∷ 1 ∷ 0 ∷ 0 ∷ 1 ∷ 0 ∷ [])) ≡ accepted (record { kind = 1; byte = 255; first = 86400; second = 1; third = 256 }))
    × (reader_call (head 2 7 (255 ∷ 255 ∷ 255 ∷ 255 ∷ 59 ∷ 154 ∷ 202 ∷ 0 ∷ 0 ∷ 0 ∷ 0 ∷ 0 ∷ 9 ∷ [])) ≡ accepted (record { kind = 2; byte = 7; first = 4294967295; second = 1000000000; third = 0 }))
    × (reader_call (head 3 0 zeros12) ≡ accepted (record { kind = 3; byte = 0; first = 0; second = 0; third = 0 }))
    × (reader_call (head 4 0 (0 ∷ 0 ∷ 0 ∷ 6 ∷ 0 ∷ 0 ∷ 0 ∷ 0 ∷ 0 ∷ 0 ∷ 0 ∷ 0 ∷ [])) ≡ accepted (record { kind = 4; byte = 0; first = 6; second = 0; third = 0 }))
    × (reader_call (68 ∷ 84 ∷ 82 ∷ []) ≡ refused 1)
    × (reader_call (68 ∷ 84 ∷ 83 ∷ replicate 17 0) ≡ refused 2)
    × (reader_call (68 ∷ 84 ∷ 82 ∷ 1 ∷ 1 ∷ replicate 15 0) ≡ refused 3)
    × (reader_call (head 5 0 zeros12) ≡ refused 4)
    × (reader_call (head 3 1 zeros12) ≡ refused 5)
    × (reader_call (head 2 8 zeros12) ≡ refused 6)
unfolding head zeros12 reader_call zeros_stand zero_places layout message big_endian fields_fit board_fits request_fits
reader_case = (refl, refl, refl, refl, refl, refl, refl, refl, refl, refl)
