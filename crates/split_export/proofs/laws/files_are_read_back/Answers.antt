use Rattle.split_export.proofs.laws.files_are_read_back.Goals as goal
use Rattle.split_fates.proofs.FitTracks.{tracks_fit}
use Rattle.split_files.proofs.ReadBack.{read_back_law}

pub returns : goal.returns
returns c choice rows fates animal name timely are name_is few some =
    read_back_law choice.unit choice.keeps_marks name _ name_is (tracks_fit choice rows fates animal timely are) few some
