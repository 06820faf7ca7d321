-- The words of a conversion, as they are read.
use Rattle.fc_convert.specs.declared.words.Asked.{Asked}
use Rattle.fc_convert.specs.Convert.{ConvertWords}

-- what they say
abbrev pub words_in : Asked → ConvertWords
words_in a = record { format = a.format; from = a.from.now; to = a.to.now }
