-- The loop's invariant: the value is the number in the bytes read, and below 256 to the power of how many they are.
use Rattle.std.proofs.Common.{◌≡◌, ◌<◌, ◌^◌, take}
use Rattle.rules.specs.Messages.{big_endian}
use Rattle.message.proofs.number.Given as goal

abbrev pub invariant-loop-byte : goal.invariant-loop-byte
invariant-loop-byte l = record { below : l.value < 256 ^ l.byte-index; same : l.value ≡ big_endian (take l.byte-index l.bytes) }
