-- How a file that is too long is read, and a script, a log or bytes that are not.
use Rattle.std.proofs.Common.{◌≡◌, ℕ, suc, ◌<◌, ◌≤◌, List, length, true, false, ap, ◌∙◌, arith, nat_lt, replicate, Result, Ok, Err, Some, None}
use Rattle.std.proofs.lemmas.Bool.Decides.{nat_tests}
use Rattle.std.proofs.lemmas.List.{length-replicate}
use Rattle.tac_commands.specs.{LINK_BYTES, TEXT_BYTES, IsTooLong, account_of, game_of, log_of, HotelLine, GameLine as ScriptLine, BadLine, script_of, game_script, bytes_in, most_bytes, lines_or_fault, script_in, read_as, logged_or_fault, Content, HasFault}
use Rattle.game_text.specs.declared.fault.GameFault.TheVariants.{Line, TooLong}
use Rattle.log_reader.specs.declared.fault.LogFault.TheVariants as logs
use Rattle.tac_commands.specs.declared.file_kinds.FileKind.{FileKind}
use Rattle.tac_commands.specs.declared.file_kinds.FileKind.TheVariants.{Game, HotelScript, GameScript, Account, Log, Bytes}

long_game : (bytes : List ℕ) → 1048576 < length bytes → game_of bytes ≡ Err TooLong
unfolding game_of
long_game bytes long = let test : nat_lt 1048576 (length bytes) ≡ true = grind (arith, nat_tests) in rw test

long_account : (bytes : List ℕ) → TEXT_BYTES < length bytes → account_of bytes ≡ Err TooLong
unfolding account_of
long_account bytes long = let test : nat_lt TEXT_BYTES (length bytes) ≡ true = grind (arith, nat_tests) in rw test

long_log : (bytes : List ℕ) → TEXT_BYTES < length bytes → logged_or_fault (log_of bytes) ≡ Err TooLong
unfolding log_of
long_log bytes long = let test : nat_lt TEXT_BYTES (length bytes) ≡ true = grind (arith, nat_tests) in rw test

long_bytes : (bytes : List ℕ) → LINK_BYTES < length bytes → bytes_in bytes ≡ Err TooLong
long_bytes bytes long = let test : nat_lt LINK_BYTES (length bytes) ≡ true = grind (arith, nat_tests) in rw test

long_script : {A : Type 0} (bytes : List ℕ) (read : Result A BadLine) → TEXT_BYTES < length bytes → script_in bytes read ≡ Err TooLong
long_script bytes read long = let test : nat_lt TEXT_BYTES (length bytes) ≡ true = grind (arith, nat_tests) in rw test

pub long_file : (kind : FileKind) (bytes : List ℕ) → most_bytes kind < length bytes → read_as kind bytes ≡ Err TooLong
long_file Game bytes long = long_game bytes long
long_file HotelScript bytes long = long_script bytes (script_of bytes) long
long_file GameScript bytes long = long_script bytes (game_script bytes) long
long_file Account bytes long = long_account bytes long
long_file Log bytes long = long_log bytes long
long_file Bytes bytes long = long_bytes bytes long

-- some bytes are too many
longer : (n : ℕ) (zeros : List ℕ) → length zeros ≡ suc n → (bytes : List ℕ) × (n < length bytes)
longer n zeros is = (zeros, omega (arith, is))

some_long : (n : ℕ) → (bytes : List ℕ) × (n < length bytes)
some_long n = longer n (replicate (suc n) 0) (length-replicate (suc n) 0)

-- a file that was found too long, whether files are known or not
pub has_long_fault : (content : Content) (kind : FileKind) (name : List ℕ) → IsTooLong content name (most_bytes kind) → HasFault content kind name TooLong
has_long_fault None kind name long = let some = some_long (most_bytes kind) in (some.0, tt, long_file kind some.0 some.1)
has_long_fault (Some files) kind name long = (long.0, long.1, long_file kind long.0 long.2)

-- ---- scripts, logs and bytes

short_script : {A : Type 0} (bytes : List ℕ) (read : Result A BadLine) → length bytes ≤ TEXT_BYTES → script_in bytes read ≡ lines_or_fault read
short_script bytes read short = let test : nat_lt TEXT_BYTES (length bytes) ≡ false = grind (arith, nat_tests) in rw test

pub good_hotel : (bytes : List ℕ) (lines : List HotelLine) → length bytes ≤ TEXT_BYTES → script_of bytes ≡ Ok lines → read_as HotelScript bytes ≡ Ok lines
good_hotel bytes lines short good = short_script bytes (script_of bytes) short ∙ ap lines_or_fault good

pub bad_hotel : (bytes : List ℕ) (line reason : ℕ) → length bytes ≤ TEXT_BYTES → script_of bytes ≡ Err (line, reason) → read_as HotelScript bytes ≡ Err (Line line reason)
bad_hotel bytes line reason short bad = short_script bytes (script_of bytes) short ∙ ap lines_or_fault bad

pub good_bytes : (bytes : List ℕ) → length bytes ≤ LINK_BYTES → read_as Bytes bytes ≡ Ok bytes
good_bytes bytes short = let test : nat_lt LINK_BYTES (length bytes) ≡ false = grind (arith, nat_tests) in rw test

pub bad_log : (bytes : List ℕ) (line : ℕ) → log_of bytes ≡ Err (logs.Line line) → read_as Log bytes ≡ Err (Line line 1)
bad_log bytes line bad = ap logged_or_fault bad

pub good_script : (bytes : List ℕ) (lines : List ScriptLine) → length bytes ≤ TEXT_BYTES → game_script bytes ≡ Ok lines → read_as GameScript bytes ≡ Ok lines
good_script bytes lines short good = short_script bytes (game_script bytes) short ∙ ap lines_or_fault good

pub bad_script : (bytes : List ℕ) (line reason : ℕ) → length bytes ≤ TEXT_BYTES → game_script bytes ≡ Err (line, reason) → read_as GameScript bytes ≡ Err (Line line reason)
bad_script bytes line reason short bad = short_script bytes (game_script bytes) short ∙ ap lines_or_fault bad
