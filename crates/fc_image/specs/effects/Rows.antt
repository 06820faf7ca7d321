-- Space on whole images, worked out.
use Rattle.std.specs.Prelude.{◌≡◌, ℕ, Bool, true, false, List, [], ◌∷◌, Option, Some, None, Result, Ok, Err, codes}
use Rattle.fc_bytes.specs.Rows.{e_root}
use Rattle.fc_names.specs.declared.refusal.Refusal.{Refusal}
use Rattle.fc_names.specs.declared.refusal.Refusal.TheVariants as refusals
use Rattle.fc_record.specs.Rows.{f}
use Rattle.fc_model.specs.Command.{Command}
use Rattle.fc_image.specs.declared.ImageFault.{ImageFault}
use Rattle.fc_image.specs.Opening.{Opened, open_image}
use Rattle.fc_image.specs.Rows.{e_image, fresh_sector, used_sector, e_root_with, entry_bytes, small_sector}
use Rattle.fc_zone.specs.declared.Run.{Run}
use Rattle.fc_zone.specs.declared.RunKind.TheVariants.{Hole}
use Rattle.fc_image.specs.effects.Placed.{holes_left}
use Rattle.fc_image.specs.effects.Sharing.{units}
use Rattle.fc_image.specs.effects.Short.{short, slack_for}
use Rattle.fc_image.specs.effects.Settled.{is_settled}

-- what space says of a command on an image
pub data Outcome : Type 0 where
  Refused : (refusal : Refusal) → Outcome
  Served : Outcome
  Unopened : Outcome

-- a refusal as an outcome
abbrev pub outcome_of : Option Refusal → Outcome
outcome_of None = Served
outcome_of (Some refusal) = Refused refusal

-- the outcome of a command on an image
abbrev pub short_on : Result Opened ImageFault → Command → Outcome
short_on (Ok v) c = outcome_of (short v c)
short_on (Err fault) c = Unopened

-- the slack of a command on an image
abbrev pub slack_on : Result Opened ImageFault → Command → Option (ℕ × ℕ)
slack_on (Ok v) c = slack_for v c
slack_on (Err fault) c = None

-- whether an image that opens is settled
abbrev pub settled_on : Result Opened ImageFault → Option Bool
settled_on (Ok v) = Some (is_settled v)
settled_on (Err fault) = None

-- an E of eight sectors with a hole of four; and one with a file of 1 byte in identifier 3, of two sectors, and a hole of two
abbrev pub fresh : List ℕ
fresh = e_image fresh_sector fresh_sector e_root

-- the one with the file
abbrev pub one_file : List ℕ
one_file = e_image used_sector used_sector (e_root_with (entry_bytes 65 1 3 3))

-- the same with the hole before the file
abbrev pub hole_first : List ℕ
hole_first =
    let sector = small_sector 0x18 0x82 (0 ∷ 0x80 ∷ 3 ∷ 0x80 ∷ []) in
    e_image sector sector (e_root_with (entry_bytes 65 0 3 3))

-- the command that makes a file of that name
abbrev pub create : List ℕ → ℕ → Command
create name len = Command.Create (name ∷ []) 0 0 len

-- a hole of so many bits
abbrev pub bits_at : ℕ → ℕ → Run
bits_at start len = record { start = start; len = len; kind = Hole }

-- space on these images
pub record SpaceRows : Type 0 where
  pub units_f : units f 5121 ≡ 96
  pub full : short_on (open_image fresh) (create (codes "A") 4097) ≡ Refused refusals.DiscFull
  pub fits : short_on (open_image fresh) (create (codes "A") 4096) ≡ Served
  pub none : short_on (open_image fresh) (create (codes "A") 0) ≡ Served
  -- a second file of 1 byte shares identifier 3, from its second share unit on
  pub shared : slack_on (open_image one_file) (create (codes "B") 1) ≡ Some (3, 2)
  pub too_long : slack_on (open_image one_file) (create (codes "B") 1025) ≡ None
  pub by_slack : short_on (open_image one_file) (create (codes "B") 1) ≡ Served
  pub directory : short_on (open_image one_file) (Command.Cdir (codes "D" ∷ [])) ≡ Served
  pub big : short_on (open_image one_file) (create (codes "B") 2049) ≡ Refused refusals.DiscFull
  -- two parts that are taken one after another from the front of one hole
  pub one_hole : holes_left (holes_left ((0, bits_at 544 160) ∷ (0, bits_at 800 64) ∷ []) ((0, bits_at 544 32) ∷ [])) ((0, bits_at 576 48) ∷ []) ≡ (0, bits_at 624 80) ∷ (0, bits_at 800 64) ∷ []
  -- a hole before the file's run is left by compaction no more
  pub settled : settled_on (open_image one_file) ≡ Some true
  pub unsettled : settled_on (open_image hole_first) ≡ Some false
