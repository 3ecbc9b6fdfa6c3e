use Rattle.rc_keys.proofs.TokenLaws.{tokens_are_pieces, tokens_are_one, faults_follow_pieces}
use Rattle.rc_keys.proofs.Staying.{faults_stay}
use Rattle.rc_keys.proofs.Single.{pieces_are_one}
use Rattle.rc_keys.proofs.laws.tokens_are_pieces.Goals as goal

pub returns : goal.returns
returns g = record { whole = tokens_are_pieces; one = tokens_are_one; cut = pieces_are_one; so_far = faults_follow_pieces; stays = faults_stay }
